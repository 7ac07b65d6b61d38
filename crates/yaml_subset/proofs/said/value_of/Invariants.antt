use Rattle.std.proofs.Common.{◌≡◌, length}
use Rattle.yaml_subset.specs.LeftOut.{value_of}
use Rattle.yaml_subset.proofs.said.value_of.Given as goal

abbrev pub invariant-loop-first : goal.invariant-loop-first
invariant-loop-first l = value_of l.rest ≡ value_of l.line

abbrev pub decreases-loop-first : goal.decreases-loop-first
decreases-loop-first l = length l.rest
