-- The resources that are left decide.
use Rattle.std.proofs.Common.{◌≡◌, drop}
use Rattle.std.specs.List.{list_any}
use Rattle.converge.specs.Needs as spec
use Rattle.converge.proofs.needs.any_acts_on_link.Given as goal

abbrev pub invariant-loop-resource : goal.invariant-loop-resource
invariant-loop-resource l = list_any spec.acts_on_link l.resources ≡ list_any spec.acts_on_link (drop l.resource-index l.resources)
