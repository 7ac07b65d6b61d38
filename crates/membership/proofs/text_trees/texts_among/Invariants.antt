use Rattle.std.proofs.Common.{◌≡◌, ◌++◌, map, drop}
use Rattle.doc_tree.specs.Doc.{docs_of}
use Rattle.doc_tree.specs.Tree.{doc_of}
use Rattle.membership.specs.TextTrees.{texts_among}
use Rattle.membership.proofs.text_trees.texts_among.Given as goal

-- the texts so far, and then those of the trees that are left
abbrev pub invariant-loop-tree : goal.invariant-loop-tree
invariant-loop-tree l = l.texts.items ++ texts_among (docs_of (map doc_of (drop l.tree-index l.tree-items))) ≡ texts_among (docs_of l.trees)
