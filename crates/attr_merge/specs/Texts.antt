-- The set of the compact texts of elements.
use Rattle.std.specs.Prelude.{◌≡◌, ℕ, List}
use Rattle.std.specs.BTreeSet.{BTreeSet, contains}
use Rattle.std.specs.Cmp.Lexicographic.{slice_cmp}
use Rattle.std.specs.Ordering.{nat_cmp}
use Rattle.doc_tree.specs.Doc.{Doc}
use Rattle.attr_merge.specs.Elements.{has_text}

-- the set has the texts of these documents and no others
abbrev pub HasTextsOf : List Doc → BTreeSet (List ℕ) → Type 0
HasTextsOf ds texts = (bytes : List ℕ) → contains (slice_cmp nat_cmp) texts bytes ≡ has_text bytes ds
