use Rattle.std.proofs.Common.{◌≡◌, length}
use Rattle.yaml_subset.specs.Signs.{is_blank}
use Rattle.yaml_subset.proofs.signs.is_blank.Given as goal

abbrev pub invariant-loop-byte : goal.invariant-loop-byte
invariant-loop-byte l = is_blank l.rest ≡ is_blank l.line

abbrev pub decreases-loop-byte : goal.decreases-loop-byte
decreases-loop-byte l = length l.rest
