-- The actions that are left decide.
use Rattle.std.proofs.Common.{◌≡◌, drop}
use Rattle.std.specs.List.{list_any}
use Rattle.resource_core.specs.Types.{is_create}
use Rattle.resource_core.proofs.drafting.has_create.Given as goal

abbrev pub invariant-loop-action : goal.invariant-loop-action
invariant-loop-action l = list_any is_create l.actions ≡ list_any is_create (drop l.action-index l.actions)
