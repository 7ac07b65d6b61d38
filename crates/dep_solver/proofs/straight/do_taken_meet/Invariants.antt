-- Each before the index passed.
use Rattle.std.proofs.Common.{◌≡◌, Contains}
use Rattle.version_rules.specs.declared.needs.Need.{Need}
use Rattle.version_rules.specs.Meets.{Meets}
use Rattle.dep_solver.specs.declared.straight.Taken.{Taken}
use Rattle.dep_solver.proofs.EachLemmas.{EachBefore}
use Rattle.dep_solver.proofs.straight.do_taken_meet.Given as goal

abbrev pub invariant-loop-need : goal.invariant-loop-need
invariant-loop-need l = EachBefore (λ (need : Need). (mark : Taken) → Contains l.taken mark → mark.place.name.now ≡ need.name → Meets mark.place.release.now.version need.constraint) l.needs l.need-index
