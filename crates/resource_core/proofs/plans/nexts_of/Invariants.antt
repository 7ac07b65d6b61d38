-- The places so far, and then those of what is left.
use Rattle.std.proofs.Common.{◌≡◌, ◌++◌, drop}
use Rattle.resource_core.specs.Plans as spec
use Rattle.resource_core.proofs.plans.nexts_of.Given as goal

abbrev pub invariant-loop-fires : goal.invariant-loop-fires
invariant-loop-fires l = l.nexts.items ++ spec.nexts (drop l.fires-index l.fn.fires) ≡ spec.nexts l.fn.fires
