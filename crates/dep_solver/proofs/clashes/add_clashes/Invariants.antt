-- All that is known so far is a conflict.
use Rattle.dep_solver.specs.Conflicts.{AreConflicts}
use Rattle.dep_solver.proofs.clashes.add_clashes.Given as goal

abbrev pub invariant-loop-values : goal.invariant-loop-values
invariant-loop-values l = AreConflicts l.universe l.rules l.roots l.known.items
