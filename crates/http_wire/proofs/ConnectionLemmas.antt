-- What one more value of a `Connection` header says.
use Rattle.std.proofs.Common.{◌≡◌, ℕ, Bool, true, false, ◌||◌, List, [], ◌∷◌, ◌++◌, refl, sym, ap, ◌∙◌}
use Rattle.std.proofs.lemmas.List.{append-nil}
use Rattle.std.proofs.lemmas.List.Folds.{list_any-append}
use Rattle.std.specs.List.{flat_map, list_any}
use Rattle.http_routes.specs.Connections.{closes, is_close, options_in}

or_assoc : (a b c : Bool) → (a || (b || c)) ≡ ((a || b) || c)
or_assoc true b c = refl
or_assoc false b c = refl

closes_cons : (value : List ℕ) (values : List (List ℕ)) → closes (value ∷ values) ≡ (list_any is_close (options_in value) || closes values)
unfolding closes
closes_cons value values = list_any-append is_close (options_in value) (flat_map options_in values)

-- the option is among the options of these values, or of one more
pub closes_more : (values : List (List ℕ)) (value : List ℕ) → closes (values ++ value ∷ []) ≡ (closes values || list_any is_close (options_in value))
unfolding closes
closes_more [] value = ap (list_any is_close) (append-nil (options_in value))
closes_more (first ∷ values) value =
    closes_cons first (values ++ value ∷ [])
    ∙ ap (λ v. list_any is_close (options_in first) || v) (closes_more values value)
    ∙ or_assoc (list_any is_close (options_in first)) (closes values) (list_any is_close (options_in value))
    ∙ ap (λ v. v || list_any is_close (options_in value)) (sym (closes_cons first values))
