-- The texts of the whole numbers of documents, for the private clauses of reading.
use Rattle.std.specs.Prelude.{◌≡◌, ℕ, ℤ, List}
use Rattle.std.specs.Fmt.{signed_decimal}
use Rattle.doc_tree.specs.Number.{IsWhole}

-- the text of a whole number
abbrev pub IsWholeText : List ℕ → Type 0
IsWholeText digits = (z : ℤ) × IsWhole z × (digits ≡ signed_decimal z)
