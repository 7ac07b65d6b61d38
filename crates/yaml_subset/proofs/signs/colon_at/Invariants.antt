use Rattle.std.proofs.Common.{◌≡◌, ◌+◌, length}
use Rattle.yaml_subset.specs.Signs.{colon_at, later}
use Rattle.yaml_subset.proofs.signs.colon_at.Given as goal

abbrev pub invariant-loop-rest : goal.invariant-loop-rest
invariant-loop-rest l = (colon_at l.text ≡ later l.place (colon_at l.rest)) × (l.place + length l.rest ≡ length l.text)

abbrev pub decreases-loop-rest : goal.decreases-loop-rest
decreases-loop-rest l = length l.rest
