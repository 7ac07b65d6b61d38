-- What is made so far, and then that of those that are left.
use Rattle.std.proofs.Common.{◌≡◌, ◌++◌, map, drop, option_map}
use Rattle.doc_tree.specs.Tree.{doc_of}
use Rattle.run_lists.specs.Reading as spec
use Rattle.run_lists.proofs.reading.items_of.Given as goal

abbrev pub invariant-loop-tree : goal.invariant-loop-tree
invariant-loop-tree l = spec.each_of spec.item_of l.trees ≡ option_map (λ later. l.items ++ later) (spec.each_of spec.item_of (map doc_of (drop l.tree-index l.tree-items)))
