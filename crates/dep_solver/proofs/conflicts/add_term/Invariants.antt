-- The terms are as they were.
use Rattle.std.proofs.Common.{◌≡◌}
use Rattle.dep_solver.proofs.conflicts.add_term.Given as goal

abbrev pub invariant-loop-index : goal.invariant-loop-index
invariant-loop-index l = l.terms ≡ l.fn.terms
