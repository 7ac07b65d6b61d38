-- What is kept are conflicts, where what was kept was.
use Rattle.dep_solver.specs.Conflicts.{Grows}
use Rattle.dep_solver.proofs.learning.Learner.refuted.Given as goal

abbrev pub invariant-loop : goal.invariant-loop
invariant-loop l = Grows l.fn.self.store l.self.store
