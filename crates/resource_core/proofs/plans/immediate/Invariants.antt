-- The places so far, and then those of the notifications that are left.
use Rattle.std.proofs.Common.{◌≡◌, ◌++◌, drop}
use Rattle.resource_core.specs.Plans.{nexts_of}
use Rattle.resource_core.proofs.plans.immediate.Given as goal

abbrev pub invariant-loop-fire : goal.invariant-loop-fire
invariant-loop-fire l = l.places ++ nexts_of (drop l.fire-index l.fire-items) ≡ nexts_of l.fire-items
