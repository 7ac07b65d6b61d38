-- The own actions so far, and then those of the resources that are left.
use Rattle.std.proofs.Common.{◌≡◌, ◌++◌, drop, map}
use Rattle.converge.specs.Pairs as spec
use Rattle.converge.proofs.firing.add_own.Given as goal

abbrev pub invariant-loop-place : goal.invariant-loop-place
invariant-loop-place l = l.todo.items ++ map spec.now_of (spec.own_from l.place (drop l.place l.resources)) ≡ l.fn.todo.items ++ map spec.now_of (spec.own_from 0 l.resources)
