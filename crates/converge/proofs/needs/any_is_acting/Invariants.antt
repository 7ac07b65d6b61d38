-- The actions that are left decide.
use Rattle.std.proofs.Common.{◌≡◌, drop}
use Rattle.std.specs.List.{list_any}
use Rattle.host_acts.specs.Tasks.{is_acting}
use Rattle.converge.proofs.needs.any_is_acting.Given as goal

abbrev pub invariant-loop-action : goal.invariant-loop-action
invariant-loop-action l = list_any is_acting l.actions ≡ list_any is_acting (drop l.action-index l.actions)
