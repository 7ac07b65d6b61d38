use Rattle.std.proofs.Common.{◌≡◌, length}
use Rattle.yaml_subset.specs.LeftOut.{is_left_out}
use Rattle.yaml_subset.proofs.said.is_left_out.Given as goal

abbrev pub invariant-loop-first : goal.invariant-loop-first
invariant-loop-first l = is_left_out l.rest ≡ is_left_out l.text

abbrev pub decreases-loop-first : goal.decreases-loop-first
decreases-loop-first l = length l.rest
