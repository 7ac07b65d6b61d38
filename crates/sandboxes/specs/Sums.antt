-- Lists of checksums in order.
use Rattle.std.specs.Prelude.{ℕ, Bool, List, bytes_eq}
use Rattle.std.specs.List.{list_any}
use Rattle.std.specs.List.Sorted.{IsStrictlySortedBy}
use Rattle.doc_tree.specs.Text.{text_cmp}

-- checksums
abbrev pub Sums : Type 0
Sums = List (List ℕ)

-- the checksum is one of these
abbrev pub lists : Sums → List ℕ → Bool
lists sums sum = list_any (bytes_eq sum) sums

-- the checksums are in the order of their bytes, and none is there twice
abbrev pub IsRising : Sums → Type 0
IsRising sums = IsStrictlySortedBy text_cmp sums
