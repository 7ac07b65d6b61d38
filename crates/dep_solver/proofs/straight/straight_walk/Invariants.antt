-- Each solution is still to be found or is passed, the places are sound, and all is marked.
use Rattle.dep_solver.specs.Search.{seen}
use Rattle.dep_solver.specs.Straight.{IsMarked}
use Rattle.dep_solver.proofs.LoopLemmas.{Searches, to_do}
use Rattle.dep_solver.proofs.straight.straight_walk.Given as goal

abbrev pub invariant-loop-name : goal.invariant-loop-name
invariant-loop-name l = Searches l.universe l.rules l.roots (seen l.walk.search.names.items) l.walk.search.places.items l.walk.search.given_up × IsMarked l.walk

abbrev pub decreases-loop-name : goal.decreases-loop-name
decreases-loop-name l = to_do l.universe l.rules l.roots l.walk.search.places.items l.walk.search.given_up
