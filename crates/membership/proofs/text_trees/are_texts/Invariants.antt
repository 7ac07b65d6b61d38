use Rattle.std.proofs.Common.{◌≡◌, map, drop}
use Rattle.doc_tree.specs.Doc.{docs_of}
use Rattle.doc_tree.specs.Tree.{doc_of}
use Rattle.membership.specs.TextTrees.{are_texts}
use Rattle.membership.proofs.text_trees.are_texts.Given as goal

-- what is left decides
abbrev pub invariant-loop-tree : goal.invariant-loop-tree
invariant-loop-tree l = are_texts (docs_of (map doc_of (drop l.tree-index l.tree-items))) ≡ are_texts (docs_of l.trees)
