-- The parts of layers that the merge goes through, as pieces.
use Rattle.std.specs.Prelude.{ℕ, List, [], map, Option, Some, None}
use Rattle.std.specs.BTreeMap.{is_at}
use Rattle.std.specs.Cmp.Lexicographic.{slice_cmp}
use Rattle.std.specs.Map.{lookup}
use Rattle.std.specs.Ordering.{nat_cmp}
use Rattle.std.specs.declared.vec.Vec.{Vec}
use Rattle.doc_tree.specs.Tree.{doc_of}
use Rattle.attr_merge.specs.Pieces.{Piece}
use Rattle.attr_merge.specs.declared.parts.Part.{Part}

-- the piece that a part is
abbrev pub piece_of : Part → Piece
piece_of part = record { position = part.position; level = part.level; document = doc_of part.tree.now }

-- the pieces that parts are
abbrev pub pieces_of : List Part → List Piece
pieces_of parts = map piece_of parts

-- the pieces of parts that may be missing
abbrev pub found_pieces : {A : Type 0} → Option (Vec Part A) → List Piece
found_pieces None = []
found_pieces (Some parts) = pieces_of parts.items

-- what is gathered at a key among entries
abbrev pub gathered_in : {A : Type 0} → List (List ℕ × Vec Part A) → List ℕ → List Piece
gathered_in entries key = found_pieces (lookup (is_at (slice_cmp nat_cmp key)) entries)
