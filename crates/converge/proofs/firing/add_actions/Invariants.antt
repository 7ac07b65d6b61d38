-- The actions so far, and then those that are left.
use Rattle.std.proofs.Common.{◌≡◌, ◌++◌, drop, map}
use Rattle.converge.specs.Pairs as spec
use Rattle.converge.proofs.firing.add_actions.Given as goal

abbrev pub invariant-loop-action : goal.invariant-loop-action
invariant-loop-action l = l.todo.items ++ map spec.now_of (map (spec.pair_of l.place l.resource) (drop l.action-index l.actions)) ≡ l.fn.todo.items ++ map spec.now_of (map (spec.pair_of l.place l.resource) l.actions)
