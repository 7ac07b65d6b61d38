use Rattle.membership.proofs.LeadingLemmas.{Led}
use Rattle.membership.proofs.leading.lead_from.Given as goal

abbrev pub invariant-loop-to : goal.invariant-loop-to
invariant-loop-to l = Led l.count l.initial.cells l.from l.through l.to l.cells
