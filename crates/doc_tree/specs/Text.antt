-- Texts, as their bytes.
use Rattle.std.specs.Prelude.{ℕ, List, Option, Some, None}
use Rattle.std.specs.Cmp.Lexicographic.{slice_cmp}
use Rattle.std.specs.Ordering.{nat_cmp}
use Rattle.std.specs.declared.cmp.Ordering.{Ordering}
use Rattle.doc_tree.specs.Doc.{Doc, null, boolean, whole, words, list, dict}

-- texts are in the order of their bytes
abbrev pub text_cmp : List ℕ → List ℕ → Ordering
text_cmp = slice_cmp nat_cmp

-- the text that a document is
abbrev pub text_of : Doc → Option (List ℕ)
text_of null = None
text_of (boolean b) = None
text_of (whole n) = None
text_of (words text) = Some text
text_of (list ds) = None
text_of (dict ps) = None
