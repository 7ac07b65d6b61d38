use Rattle.membership.specs.Leading.{at}
use Rattle.membership.proofs.LeadingLemmas.{GoneThrough}
use Rattle.membership.proofs.leading.lead_on.Given as goal

abbrev pub invariant-loop-through : goal.invariant-loop-through
invariant-loop-through l = GoneThrough l.count (at l.count l.initial.cells) l.through (at l.count l.cells)
