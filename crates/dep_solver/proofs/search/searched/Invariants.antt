-- Each solution is still to be found or is passed, the places are sound, and what was learned is true.
use Rattle.dep_solver.specs.Conflicts.{KeepsConflicts}
use Rattle.dep_solver.specs.Search.{seen}
use Rattle.dep_solver.proofs.LoopLemmas.{Searches, to_do}
use Rattle.dep_solver.proofs.search.searched.Given as goal

abbrev pub invariant-loop-name : goal.invariant-loop-name
invariant-loop-name l =
    Searches l.universe l.rules l.roots (seen l.search.names.items) l.search.places.items l.search.given_up × KeepsConflicts l.universe l.rules l.roots l.learner.store

abbrev pub decreases-loop-name : goal.decreases-loop-name
decreases-loop-name l = to_do l.universe l.rules l.roots l.search.places.items l.search.given_up
