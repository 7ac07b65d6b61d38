-- Texts that are joined.
use Rattle.std.proofs.Common.{◌≡◌, ℕ, List, [], ◌∷◌, ◌++◌, map, refl, ap}
use Rattle.std.specs.List.{join_by, flat_map}

module _ {X : Type 0} (text : X → List ℕ) (separator : List ℕ) where
  rest_mapped : (xs : List X) → flat_map (λ x. separator ++ text x) xs ≡ flat_map (λ (t : List ℕ). separator ++ t) (map text xs)
  rest_mapped [] = refl
  rest_mapped (x ∷ xs) = ap (λ rest. (separator ++ text x) ++ rest) (rest_mapped xs)

  -- what is joined by its texts is its texts, joined
  pub join-map : (xs : List X) → join_by text separator xs ≡ join_by (λ (t : List ℕ). t) separator (map text xs)
  join-map [] = refl
  join-map (x ∷ xs) = ap (λ rest. text x ++ rest) (rest_mapped xs)
