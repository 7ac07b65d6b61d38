-- What is heard so far, and then by the entries that are left.
use Rattle.std.proofs.Common.{◌≡◌, ◌++◌, drop, Ok}
use Rattle.resource_core.specs.Links as spec
use Rattle.resource_core.specs.Outcomes.{then_do}
use Rattle.resource_core.proofs.linking.hear.Given as goal

abbrev pub invariant-loop-entry : goal.invariant-loop-entry
invariant-loop-entry l = then_do (spec.each_entry (spec.heard l.drafts.resources.items l.place) l.place l.entries) (λ more. Ok (l.fn.all.items ++ more)) ≡ then_do (spec.each_entry (spec.heard l.drafts.resources.items l.place) l.place (drop l.entry-index l.entries)) (λ more. Ok (l.all.items ++ more))
