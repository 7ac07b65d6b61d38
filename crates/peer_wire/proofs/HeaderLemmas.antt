-- What one more value of a `Content-Type` header says.
use Rattle.std.proofs.Common.{◌≡◌, ℕ, ◌||◌, List, [], ◌∷◌, ◌++◌, ap, ◌∙◌}
use Rattle.std.proofs.lemmas.List.Folds.{list_any-append}
use Rattle.std.proofs.Math.Bool.{or-false}
use Rattle.peer_wire.specs.Fields.{is_octet_stream, lists_octets}

-- one of these values says it, or one more
pub octets_more : (values : List (List ℕ)) (value : List ℕ) → lists_octets (values ++ value ∷ []) ≡ (lists_octets values || is_octet_stream value)
octets_more values value =
    list_any-append is_octet_stream values (value ∷ []) ∙ ap (λ b. lists_octets values || b) (or-false (is_octet_stream value))
