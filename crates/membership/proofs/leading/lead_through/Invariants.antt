use Rattle.membership.proofs.LeadingLemmas.{Passed}
use Rattle.membership.proofs.leading.lead_through.Given as goal

abbrev pub invariant-loop-from : goal.invariant-loop-from
invariant-loop-from l = Passed l.count l.initial.cells l.through l.from l.cells
