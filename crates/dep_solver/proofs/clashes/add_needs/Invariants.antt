-- All that is known so far is a conflict.
use Rattle.dep_solver.specs.Conflicts.{AreConflicts}
use Rattle.dep_solver.proofs.clashes.add_needs.Given as goal

abbrev pub invariant-loop-other : goal.invariant-loop-other
invariant-loop-other l = AreConflicts l.universe l.rules l.roots l.known.items
