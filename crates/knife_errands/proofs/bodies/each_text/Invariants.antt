-- The texts so far, and then those of the documents that are left.
use Rattle.std.proofs.Common.{◌≡◌, ◌++◌, map, drop, option_map}
use Rattle.doc_tree.specs.Tree.{doc_of}
use Rattle.run_lists.specs.Reading.{each_of}
use Rattle.knife_errands.specs.Bodies as spec
use Rattle.knife_errands.proofs.bodies.each_text.Given as goal

abbrev pub invariant-loop-tree : goal.invariant-loop-tree
invariant-loop-tree l = each_of (spec.text_at l.key) l.trees ≡ option_map (λ later. l.texts ++ later) (each_of (spec.text_at l.key) (map doc_of (drop l.tree-index l.tree-items)))
