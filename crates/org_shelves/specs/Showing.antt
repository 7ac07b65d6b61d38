-- A stored manifest as a reply shows it: each entry with the place of its file.
use Rattle.std.specs.Prelude.{ℕ, List, ◌++◌, map, codes, if◌then◌else◌}
use Rattle.doc_tree.specs.Doc.{Doc, null, boolean, whole, words, list, dict, docs_of, docs_list, pairs_of, pairs_list}
use Rattle.doc_tree.specs.Part.{with_pair}
use Rattle.cookbook_meta.specs.Segments.{segments}
use Rattle.cookbook_meta.specs.Stored.{is_among}
use Rattle.org_shelves.specs.Editions.{sum_in}

-- an entry with its `url`: this front followed by its checksum
abbrev pub shown_entry : List ℕ → Doc → Doc
shown_entry front null = null
shown_entry front (boolean b) = boolean b
shown_entry front (whole z) = whole z
shown_entry front (words text) = words text
shown_entry front (list docs) = list docs
shown_entry front (dict pairs) = dict (pairs_of (with_pair (codes "url") (words (front ++ sum_in (dict pairs))) (pairs_list pairs)))

-- a segment with each of its entries shown
abbrev pub shown_segment : List ℕ → Doc → Doc
shown_segment front null = null
shown_segment front (boolean b) = boolean b
shown_segment front (whole z) = whole z
shown_segment front (words text) = words text
shown_segment front (list docs) = list (docs_of (map (shown_entry front) (docs_list docs)))
shown_segment front (dict pairs) = dict pairs

-- a pair of a manifest: a segment is shown, and all else is as stored
abbrev pub shown_pair : List ℕ → List ℕ × Doc → List ℕ × Doc
shown_pair front pair = (pair.0, if is_among pair.0 segments then shown_segment front pair.1 else pair.1)

-- a manifest with a `url` in each entry of its nine segments
abbrev pub shown_doc : List ℕ → Doc → Doc
shown_doc front null = null
shown_doc front (boolean b) = boolean b
shown_doc front (whole z) = whole z
shown_doc front (words text) = words text
shown_doc front (list docs) = list docs
shown_doc front (dict pairs) = dict (pairs_of (map (shown_pair front) (pairs_list pairs)))
