-- The last of what is fired, reversed.
use Rattle.std.proofs.Common.{◌≡◌, ◌≤◌, ◌++◌, drop, length, map, reverse}
use Rattle.converge.specs.Pairs as spec
use Rattle.converge.proofs.firing.push_reversed.Given as goal

abbrev pub invariant-loop-left : goal.invariant-loop-left
invariant-loop-left l = (l.left ≤ length l.fires) × (
    l.todo.items ≡ l.fn.todo.items ++ reverse (map (spec.fire_of l.plan.resources) (drop l.left l.fires)))

abbrev pub decreases-loop-left : goal.decreases-loop-left
decreases-loop-left l = l.left
