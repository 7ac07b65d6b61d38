-- One step for each that came.
use Rattle.std.proofs.Common.{◌≡◌, ◌+◌}
use Rattle.cookbook_routes.proofs.universe_routes.look_at_each.Given as goal

abbrev pub invariant-loop-item : goal.invariant-loop-item
invariant-loop-item g l = l.steps ≡ l.fn.steps + l._item-index
