-- Names that are gathered, and lists in order with the same names.
use Rattle.std.proofs.Common.{◌≡◌, ℕ, List, [], ◌∷◌, Bool, true, false, cond, ◌||◌, bytes_eq, nat_cmp, refl, sym, ap, ◌∙◌}
use Rattle.std.specs.BTreeMap.{is_at}
use Rattle.std.specs.Cmp.Lexicographic.{slice_cmp, nat_list_cmp_total}
use Rattle.std.specs.List.{list_any}
use Rattle.std.proofs.lemmas.Map.Lookups.{btree_set_from_contains, exact_bytes}
use Rattle.doc_tree.specs.Valid.{InOrder}
use Rattle.doc_tree.proofs.Maps.{eq_by_cmp-text, bytes_eq-symm}

-- a name that was added to others
pub has-added : (key name other : List ℕ) (before : Bool) → key ≡ name
    → cond (is_at (slice_cmp nat_cmp key) other) true before ≡ (before || bytes_eq other name)
has-added key name other before same =
    ap (λ b. cond b true before) (eq_by_cmp-text key other ∙ ap (λ k. bytes_eq k other) same ∙ bytes_eq-symm name other)
    ∙ either (bytes_eq other name) before
  where
    either : (b c : Bool) → cond b true c ≡ (c || b)
    either true true = refl
    either true false = refl
    either false true = refl
    either false false = refl

-- a name is in a set where one of its keys has the same bytes
pub has-keys : (name : List ℕ) (keys : List (List ℕ)) → list_any (bytes_eq name) keys ≡ list_any (is_at (slice_cmp nat_cmp name)) keys
has-keys name [] = refl
has-keys name (k ∷ ks) =
    ap (λ b. b || list_any (bytes_eq name) ks) (sym (eq_by_cmp-text name k)) ∙ ap (λ b. is_at (slice_cmp nat_cmp name) k || b) (has-keys name ks)

-- lists in order with the same names are the same
pub same_in_order : (xs ys : List (List ℕ)) → InOrder xs → InOrder ys → ((name : List ℕ) → list_any (bytes_eq name) xs ≡ list_any (bytes_eq name) ys) → xs ≡ ys
same_in_order xs ys rising rises same =
    btree_set_from_contains nat_list_cmp_total (record { keys = xs }) (record { keys = ys }) rising rises
    (λ name. sym (has-keys name xs) ∙ same name ∙ has-keys name ys) exact_bytes
