-- Each before the index passed.
use Rattle.std.proofs.Common.{◌≡◌}
use Rattle.version_rules.specs.Meets.{Meets}
use Rattle.dep_solver.specs.declared.search.Place.{Place}
use Rattle.dep_solver.proofs.EachLemmas.{EachBefore}
use Rattle.dep_solver.proofs.candidates.do_meet.Given as goal

abbrev pub invariant-loop-place : goal.invariant-loop-place
invariant-loop-place l = EachBefore (λ (place : Place). place.name.now ≡ l.need.name → Meets place.release.now.version l.need.constraint) l.places l.place-index
