-- Each before the index passed.
use Rattle.std.proofs.Common.{◌≡◌, Contains}
use Rattle.version_rules.specs.declared.needs.Need.{Need}
use Rattle.version_rules.specs.Meets.{Meets}
use Rattle.dep_solver.specs.declared.search.Place.{Place}
use Rattle.dep_solver.proofs.EachLemmas.{EachBefore}
use Rattle.dep_solver.proofs.candidates.are_places_met.Given as goal

abbrev pub invariant-loop-place : goal.invariant-loop-place
invariant-loop-place l = EachBefore (λ (place : Place). (need : Need) → Contains place.release.now.needs need → need.name ≡ l.name → Meets l.version need.constraint) l.places l.place-index
