-- The lines so far, and then those of the cookbooks that are left.
use Rattle.std.proofs.Common.{◌≡◌, ◌++◌, map, drop, option_map}
use Rattle.doc_tree.specs.Tree.{pair_of}
use Rattle.knife_errands.specs.Bodies as spec
use Rattle.knife_errands.proofs.bodies.cookbooks_of.Given as goal

abbrev pub invariant-loop-field : goal.invariant-loop-field
invariant-loop-field l = spec.cookbooks_of l.fields ≡ option_map (λ later. l.names ++ later) (spec.cookbooks_of (map pair_of (drop l.field-index l.field-items)))
