-- Sums over the views of all seats.
use Rattle.std.specs.Prelude.{ℕ, ◌+◌, List, [], ◌∷◌, if◌then◌else◌, Option, Some, None, ◌==◌, nat_lt}

-- what each of them counts, added up
abbrev pub total : {V : Type 0} → (V → ℕ) → List V → ℕ
total f [] = 0
total f (v ∷ vs) = f v + total f vs

-- 1 where the numbers are one
abbrev pub same : ℕ → ℕ → ℕ
same x y = if x == y then 1 else 0

-- how often the number stands in the list
abbrev pub times : ℕ → List ℕ → ℕ
times x [] = 0
times x (y ∷ ys) = same x y + times x ys

-- 1 where the number is the ticket
abbrev pub is_ticket : ℕ → Option ℕ → ℕ
is_ticket x None = 0
is_ticket x (Some y) = same x y

-- 1 where the first is below the second
abbrev pub below : ℕ → ℕ → ℕ
below x n = if nat_lt x n then 1 else 0
