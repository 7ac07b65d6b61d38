-- A stored manifest that is frozen.
use Rattle.std.specs.Prelude.{true, codes}
use Rattle.doc_tree.specs.Doc.{Doc, null, boolean, whole, words, list, dict, pairs_of, pairs_list}
use Rattle.doc_tree.specs.Part.{with_pair}

-- the same document with `frozen?` true
abbrev pub freeze : Doc → Doc
freeze null = null
freeze (boolean b) = boolean b
freeze (whole z) = whole z
freeze (words text) = words text
freeze (list docs) = list docs
freeze (dict pairs) = dict (pairs_of (with_pair (codes "frozen?") (boolean true) (pairs_list pairs)))
