-- Each before the index passed.
use Rattle.std.proofs.Common.{◌≡◌}
use Rattle.version_rules.specs.Meets.{Meets}
use Rattle.dep_solver.specs.declared.straight.Taken.{Taken}
use Rattle.dep_solver.proofs.EachLemmas.{EachBefore}
use Rattle.dep_solver.proofs.straight.do_meet.Given as goal

abbrev pub invariant-loop-mark : goal.invariant-loop-mark
invariant-loop-mark l = EachBefore (λ (mark : Taken). mark.place.name.now ≡ l.need.name → Meets mark.place.release.now.version l.need.constraint) l.taken l.mark-index
