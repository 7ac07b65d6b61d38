-- The resources that are left decide.
use Rattle.std.proofs.Common.{◌≡◌, drop}
use Rattle.std.specs.List.{list_any}
use Rattle.converge.specs.Needs as spec
use Rattle.converge.proofs.needs.needs_modes.Given as goal

abbrev pub invariant-loop-resource : goal.invariant-loop-resource
invariant-loop-resource l = list_any spec.states_mode l.plan.resources ≡ list_any spec.states_mode (drop l.resource-index l.plan.resources)
