-- The names that documents have.
use Rattle.std.specs.Prelude.{ℕ, List, [], Option, Some, None}
use Rattle.doc_tree.specs.Doc.{Doc, null, boolean, whole, words, list, dict}
use Rattle.doc_tree.specs.Part.{part_at}

-- the text that a document is
abbrev pub text_of : Option Doc → List ℕ
text_of None = []
text_of (Some null) = []
text_of (Some (boolean b)) = []
text_of (Some (whole n)) = []
text_of (Some (words w)) = w
text_of (Some (list ds)) = []
text_of (Some (dict ps)) = []

-- the name that an object has as its field of this key
abbrev pub named_by : List ℕ → Doc → List ℕ
named_by field object = text_of (part_at field object)
