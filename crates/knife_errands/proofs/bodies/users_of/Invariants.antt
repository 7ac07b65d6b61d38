-- The names so far, and then those of the documents that are left.
use Rattle.std.proofs.Common.{◌≡◌, ◌++◌, map, drop, option_map}
use Rattle.doc_tree.specs.Tree.{doc_of}
use Rattle.run_lists.specs.Reading.{each_of}
use Rattle.knife_errands.specs.Bodies as spec
use Rattle.knife_errands.proofs.bodies.users_of.Given as goal

abbrev pub invariant-loop-tree : goal.invariant-loop-tree
invariant-loop-tree l = each_of spec.user_in l.trees ≡ option_map (λ later. l.names ++ later) (each_of spec.user_in (map doc_of (drop l.tree-index l.tree-items)))
