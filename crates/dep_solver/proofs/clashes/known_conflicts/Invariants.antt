-- All that is known so far is a conflict.
use Rattle.dep_solver.specs.Conflicts.{AreConflicts}
use Rattle.dep_solver.proofs.clashes.known_conflicts.Given as goal

abbrev pub invariant-loop-root : goal.invariant-loop-root
invariant-loop-root l = AreConflicts l.universe l.rules l.roots l.known.items

abbrev pub invariant-loop-index : goal.invariant-loop-index
invariant-loop-index l = AreConflicts l.universe l.rules l.roots l.known.items
