-- Moves that are orderly.
use Rattle.std.proofs.Common.{◌≡◌, ℕ, cond, List, [], ◌∷◌, Option, Some, None, is_some, length, filter, refl, subst}
use Rattle.org_core.specs.declared.moves.Move.{Move}
use Rattle.org_core.specs.Moves.{IsOrderly, arrivals, group_joined}

-- among these nobody comes, neither with the first nor with the rest
none_first : (move : Move) (rest : List Move) (found : Option (List ℕ)) → group_joined move ≡ found → arrivals (move ∷ rest) ≡ 0 → (group_joined move ≡ None) × (arrivals rest ≡ 0)
none_first move rest None is none = (is, subst (λ (f : Option (List ℕ)). length (cond (is_some f) (move ∷ filter (λ m. is_some (group_joined m)) rest) (filter (λ m. is_some (group_joined m)) rest)) ≡ 0) is none)
none_first move rest (Some group) is none =
    cc (subst (λ (f : Option (List ℕ)). length (cond (is_some f) (move ∷ filter (λ m. is_some (group_joined m)) rest) (filter (λ m. is_some (group_joined m)) rest)) ≡ 0) is none)

-- where nobody comes, the moves are orderly
pub orderly_without : (moves : List Move) → arrivals moves ≡ 0 → IsOrderly moves
orderly_without [] none = refl
orderly_without (move ∷ rest) none = (none_first move rest _ refl none).1
