use Rattle.std.proofs.Common.{◌≡◌, map, drop}
use Rattle.doc_tree.specs.Tree.{doc_of}
use Rattle.attr_merge.specs.Elements.{with_elements}
use Rattle.attr_merge.proofs.elements.Elements.with_all.Given as goal

-- the elements so far, and those that are left
abbrev pub invariant-loop-tree : goal.invariant-loop-tree
invariant-loop-tree l = with_elements l.elements (map doc_of (drop l.tree-index l.tree-items)) ≡ with_elements l.fn.self l.more
