-- A place or none, as one number, for the private clauses.
use Rattle.std.specs.Prelude.{◌≡◌, ◌==◌, ℕ, Option, Some, None, if◌then◌else◌}
use Rattle.std.proofs.Common.{◌∙◌, ap, inl, inr, sym}
use Rattle.std.proofs.lemmas.Bool.Decides.{eqb_tells}

-- the number that stands for none
abbrev pub no_number : ℕ
no_number = 4294967295

-- the place that a number stands for
abbrev pub place_of : ℕ → Option ℕ
place_of n = if n == no_number then None else Some n

-- the number that stands for a place
abbrev pub number_of_place : Option ℕ → ℕ
number_of_place None = no_number
number_of_place (Some n) = n

-- a number is the one that stands for its place
pub same_number : (n : ℕ) → number_of_place (place_of n) ≡ n
same_number n = elim (eqb_tells n no_number) [
  | inl (is, same) ↦ ap (λ b. number_of_place (if b then None else Some n)) is ∙ sym same
  | inr (is, differs) ↦ ap (λ b. number_of_place (if b then None else Some n)) is
]
