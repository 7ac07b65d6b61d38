-- Lists of numbers.
use Rattle.std.specs.Prelude.{◌≡◌, ◌⊎◌, ℕ, List, [], ◌∷◌, ◌++◌}

-- the number is one of these
abbrev pub Among : List ℕ → ℕ → Type 0
Among [] x = ⊥
Among (y ∷ ys) x = (y ≡ x) ⊎ Among ys x

-- no number is there twice
abbrev pub AreApart : List ℕ → Type 0
AreApart [] = Unit {0}
AreApart (x ∷ xs) = (Among xs x → ⊥) × AreApart xs

-- the number is gone, and the others stand as they stood
abbrev pub Loses : List ℕ → ℕ → List ℕ → Type 0
Loses all id now = (front back : List ℕ) × (all ≡ front ++ id ∷ back) × (now ≡ front ++ back)
