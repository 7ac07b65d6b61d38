-- The shelves of a listing.
use Rattle.std.proofs.Common.{ℕ, List}
use Rattle.std.specs.FinMap as finite
use Rattle.doc_tree.specs.Text.{text_cmp}
use Rattle.doc_tree.specs.Doc.{Doc}
use Rattle.shelves.specs.SortedMap.{Sorted, map_of}

-- a shelf with its name, as it is kept and as it is seen
abbrev pub Shelf : Type 0
Shelf = List ℕ × Sorted (List ℕ) Doc

abbrev pub seen_shelf : Shelf → List ℕ × finite.FinMap text_cmp Doc
seen_shelf e = (e.0, map_of text_cmp e.1)
