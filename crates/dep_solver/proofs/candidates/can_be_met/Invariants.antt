-- Each before the index passed.
use Rattle.version_rules.specs.declared.needs.Need.{Need}
use Rattle.dep_solver.specs.Search.{CanMeet}
use Rattle.dep_solver.proofs.EachLemmas.{EachBefore}
use Rattle.dep_solver.proofs.candidates.can_be_met.Given as goal

abbrev pub invariant-loop-need : goal.invariant-loop-need
invariant-loop-need l = EachBefore (λ (need : Need). CanMeet l.universe l.rules l.roots l.dead need) l.needs l.need-index
