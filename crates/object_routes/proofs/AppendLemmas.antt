-- Moves that are put behind others, one after the other.
use Rattle.std.proofs.Common.{◌≡◌, List, [], ◌∷◌, ◌++◌, Result, Ok, Err, OnOk, ap, ◌∙◌, append_assoc}
use Rattle.org_core.specs.declared.moves.Move.{Move}

pub two_behind : (xs : List Move) (a b : Move) → (xs ++ a ∷ []) ++ b ∷ [] ≡ xs ++ (a ∷ b ∷ [])
two_behind xs a b = append_assoc xs (a ∷ []) (b ∷ [])

-- four moves, two by two
four_behind : (xs mid now : List Move) (a b c d : Move) → mid ≡ xs ++ (a ∷ b ∷ []) → now ≡ mid ++ (c ∷ d ∷ []) → now ≡ xs ++ (a ∷ b ∷ c ∷ d ∷ [])
four_behind xs mid now a b c d first then = then ∙ ap (λ (ms : List Move). ms ++ (c ∷ d ∷ [])) first ∙ append_assoc xs (a ∷ b ∷ []) (c ∷ d ∷ [])

-- where the last two were put
pub two_and_two : {T E : Type 0} (result : Result T E) (xs mid now : List Move) (a b c d : Move) → mid ≡ xs ++ (a ∷ b ∷ []) → OnOk result (now ≡ mid ++ (c ∷ d ∷ []))
    → OnOk result (now ≡ xs ++ (a ∷ b ∷ c ∷ d ∷ []))
two_and_two (Ok value) xs mid now a b c d first then = four_behind xs mid now a b c d first then
two_and_two (Err cause) xs mid now a b c d first then = tt
