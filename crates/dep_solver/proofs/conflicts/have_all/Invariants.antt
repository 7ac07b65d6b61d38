-- The places have each term before the index.
use Rattle.dep_solver.specs.Conflicts.{PlacesHave}
use Rattle.dep_solver.proofs.EachLemmas.{EachBefore}
use Rattle.dep_solver.proofs.conflicts.have_all.Given as goal

abbrev pub invariant-loop-term : goal.invariant-loop-term
invariant-loop-term l = EachBefore (PlacesHave l.universe l.places) l.terms l.term-index
