use Rattle.std.proofs.Common.{◌≡◌, ◌++◌, drop, map}
use Rattle.doc_tree.specs.Doc.{docs_of}
use Rattle.doc_tree.specs.Tree.{doc_of}
use Rattle.search_query.specs.Pairs.{items_pairs}
use Rattle.search_query.proofs.flatten.items.Given as goal

-- what was found so far, and then what is left, is all
abbrev pub invariant-loop-tree : goal.invariant-loop-tree
invariant-loop-tree l = l.found ++ items_pairs (docs_of (map doc_of (drop l.tree-index l.tree-items))) ≡ l.fn.found ++ items_pairs (docs_of l.trees)
