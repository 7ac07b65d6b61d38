-- What the layers have at one path, highest first.
use Rattle.std.specs.Prelude.{ℕ, List, [], ◌∷◌, Bool, true, false, ◌||◌, Option, Some, None, if◌then◌else◌}
use Rattle.doc_tree.specs.Doc.{Doc, null, boolean, whole, words, list, dict}
use Rattle.doc_tree.specs.Part.{at, part_at}

-- a document that a layer has somewhere: the layer's position among all layers, its level, and the document
pub record Piece : Type 0 where
  pub position : ℕ
  pub level : ℕ
  pub document : Doc

-- null is no value
abbrev pub is_null : Doc → Bool
is_null null = true
is_null (boolean b) = false
is_null (whole z) = false
is_null (words s) = false
is_null (list ds) = false
is_null (dict ps) = false

-- a value that is neither a dict nor null
abbrev pub is_plain : Doc → Bool
is_plain null = false
is_plain (boolean b) = true
is_plain (whole z) = true
is_plain (words s) = true
is_plain (list ds) = true
is_plain (dict ps) = false

-- the test of a document that may be missing
abbrev pub if_there : (Doc → Bool) → Option Doc → Bool
if_there test None = false
if_there test (Some d) = test d

-- the document has, at a proper prefix of the path, a value that is neither a dict nor null
abbrev pub crosses : List (List ℕ) → Doc → Bool
crosses [] d = false
crosses (key ∷ path) d = is_plain d || if_there (crosses path) (part_at key d)

-- these pieces, and above them what the layer of this one has, where that is a value
abbrev pub with_value : Piece → Option Doc → List Piece → List Piece
with_value piece None below = below
with_value piece (Some d) below = if is_null d then below else record { position = piece.position; level = piece.level; document = d } ∷ below

-- the values at a path, highest first, of the layers that aren't cut there: a layer that crosses the path cuts each that is below it
abbrev pub seen : List (List ℕ) → List Piece → List Piece
seen path [] = []
seen path (piece ∷ below) = with_value piece (at path piece.document) (if crosses path piece.document then [] else seen path below)
