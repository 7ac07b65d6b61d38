-- The document that a tree is, and the tree that a document is.
use Rattle.std.specs.Prelude.{ℕ, List}
use Rattle.doc_tree.specs.Doc.{Doc, null, boolean, whole, words, list, dict, docs_of, docs_list, pairs_of, pairs_list}
use Rattle.doc_tree.specs.declared.tree.Tree.{Tree}
use Rattle.doc_tree.specs.declared.tree.Tree.TheVariants as tree
use Rattle.doc_tree.specs.declared.tree.Field.{Field}

-- the document that a tree is
abbrev pub doc_of : Tree → Doc
doc_of tree.Null = null
doc_of (tree.Bool b) = boolean b
doc_of (tree.Whole z) = whole z
doc_of (tree.Words s) = words s
doc_of (tree.List ds) = list (docs_of ds)
doc_of (tree.Dict ps) = dict (pairs_of ps)

-- the tree that a document is
abbrev pub tree_of : Doc → Tree
tree_of null = tree.Null
tree_of (boolean b) = tree.Bool b
tree_of (whole z) = tree.Whole z
tree_of (words s) = tree.Words s
tree_of (list ds) = tree.List (docs_list ds)
tree_of (dict ps) = tree.Dict (pairs_list ps)

-- the key of a field, with the document that its tree is
abbrev pub pair_of : Field → List ℕ × Doc
pair_of f = (f.key, doc_of f.tree)
