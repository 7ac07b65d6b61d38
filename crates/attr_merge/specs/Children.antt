-- What the layers have one key further down, for the merge, which goes down key by key.
use Rattle.std.specs.Prelude.{◌≡◌, ℕ, max, List, [], ◌∷◌, if◌then◌else◌}
use Rattle.doc_tree.specs.Doc.{depth}
use Rattle.doc_tree.specs.Part.{part_at}
use Rattle.attr_merge.specs.Pieces.{Piece, is_plain, with_value, seen}

-- the values that these have at a key, down to the first that is neither a dict nor null
abbrev pub children : List ℕ → List Piece → List Piece
children key [] = []
children key (piece ∷ below) = with_value piece (part_at key piece.document) (if is_plain piece.document then [] else children key below)

-- none of these is null
abbrev pub AreValues : List Piece → Type 0
AreValues pieces = seen [] pieces ≡ pieces

-- the depth of the deepest of these
abbrev pub pieces_depth : List Piece → ℕ
pieces_depth [] = 0
pieces_depth (piece ∷ pieces) = max (depth piece.document) (pieces_depth pieces)
