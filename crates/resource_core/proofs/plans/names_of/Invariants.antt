-- The titles so far, and then those of the resources that are left.
use Rattle.std.proofs.Common.{◌≡◌, ◌++◌, drop}
use Rattle.resource_core.specs.Drafts.{titles}
use Rattle.resource_core.specs.Settling.{kept}
use Rattle.resource_core.proofs.plans.names_of.Given as goal

abbrev pub invariant-loop-place : goal.invariant-loop-place
invariant-loop-place l = l.names ++ kept (drop l.place l.flags) (titles (drop l.place l.resources)) ≡ kept l.flags (titles l.resources)
