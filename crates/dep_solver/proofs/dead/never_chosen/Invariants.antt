-- What is flagged so far is in no solution.
use Rattle.dep_solver.specs.Search.{AreNeverChosen}
use Rattle.dep_solver.proofs.dead.never_chosen.Given as goal

abbrev pub invariant-loop : goal.invariant-loop
invariant-loop l = AreNeverChosen l.universe l.rules l.roots l.dead
