-- Each before the index passed.
use Rattle.std.proofs.Common.{◌≡◌}
use Rattle.version_rules.specs.Meets.{Meets}
use Rattle.dep_solver.specs.declared.straight.Needed.{Needed}
use Rattle.dep_solver.proofs.EachLemmas.{EachBefore}
use Rattle.dep_solver.proofs.straight.are_needed_met.Given as goal

abbrev pub invariant-loop-mark : goal.invariant-loop-mark
invariant-loop-mark l = EachBefore (λ (mark : Needed). mark.need.now.name ≡ l.name → Meets l.version mark.need.now.constraint) l.needed l.mark-index
