-- The links of the resources that are left, behind those so far.
use Rattle.std.proofs.Common.{◌≡◌, drop, []}
use Rattle.resource_core.specs.Links as spec
use Rattle.resource_core.specs.Linking.{links_by}
use Rattle.resource_core.proofs.linking.links_of.Given as goal

abbrev pub invariant-loop-resource : goal.invariant-loop-resource
invariant-loop-resource l = spec.links l.drafts.resources.items l.resource-items (record { own = []; all_heard = [] }) ≡ spec.links l.drafts.resources.items (drop l.resource-index l.resource-items) (links_by l.links)
