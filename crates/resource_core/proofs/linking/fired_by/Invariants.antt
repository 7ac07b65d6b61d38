-- What is fired so far, and then by the entries that are left.
use Rattle.std.proofs.Common.{◌≡◌, ◌++◌, drop, Ok}
use Rattle.resource_core.specs.Links as spec
use Rattle.resource_core.specs.Outcomes.{then_do}
use Rattle.resource_core.proofs.linking.fired_by.Given as goal

abbrev pub invariant-loop-entry : goal.invariant-loop-entry
invariant-loop-entry l = spec.each_entry (spec.fired l.drafts.resources.items) l.place l.entries ≡ then_do (spec.each_entry (spec.fired l.drafts.resources.items) l.place (drop l.entry-index l.entries)) (λ more. Ok (l.fires ++ more))
