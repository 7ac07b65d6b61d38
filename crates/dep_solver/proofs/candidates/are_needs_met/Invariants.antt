-- Each before the index passed.
use Rattle.std.proofs.Common.{◌≡◌}
use Rattle.version_rules.specs.declared.needs.Need.{Need}
use Rattle.version_rules.specs.Meets.{Meets}
use Rattle.dep_solver.proofs.EachLemmas.{EachBefore}
use Rattle.dep_solver.proofs.candidates.are_needs_met.Given as goal

abbrev pub invariant-loop-need : goal.invariant-loop-need
invariant-loop-need l = EachBefore (λ (need : Need). need.name ≡ l.name → Meets l.version need.constraint) l.needs l.need-index
