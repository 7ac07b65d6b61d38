-- What was resolved so far follows of what is kept.
use Rattle.dep_solver.specs.Conflicts.{Follows}
use Rattle.dep_solver.proofs.learning.resolved_back.Given as goal

abbrev pub invariant-loop : goal.invariant-loop
invariant-loop l = Follows l.store l.resolved_terms.items
