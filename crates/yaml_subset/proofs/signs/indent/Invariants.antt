use Rattle.std.proofs.Common.{◌≡◌, ◌+◌, length}
use Rattle.yaml_subset.specs.Signs.{indent}
use Rattle.yaml_subset.proofs.signs.indent.Given as goal

abbrev pub invariant-loop-rest : goal.invariant-loop-rest
invariant-loop-rest l = (l.count + indent l.rest ≡ indent l.line) × (l.count + length l.rest ≡ length l.line)

abbrev pub decreases-loop-rest : goal.decreases-loop-rest
decreases-loop-rest l = length l.rest
