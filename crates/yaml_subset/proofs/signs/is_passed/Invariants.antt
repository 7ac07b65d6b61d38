use Rattle.std.proofs.Common.{◌≡◌, length}
use Rattle.yaml_subset.specs.Signs.{is_passed}
use Rattle.yaml_subset.proofs.signs.is_passed.Given as goal

abbrev pub invariant-loop-rest : goal.invariant-loop-rest
invariant-loop-rest l = is_passed l.rest ≡ is_passed l.line

abbrev pub decreases-loop-rest : goal.decreases-loop-rest
decreases-loop-rest l = length l.rest
