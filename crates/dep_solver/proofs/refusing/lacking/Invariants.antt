-- The names so far are those of the first roots.
use Rattle.dep_solver.specs.Refusals.{IsLacking}
use Rattle.dep_solver.proofs.RefusalLemmas.{ListsBefore}
use Rattle.dep_solver.proofs.refusing.lacking.Given as goal

abbrev pub invariant-loop-name : goal.invariant-loop-name
invariant-loop-name l = ListsBefore (IsLacking l.universe) l.roots.names l.name-index l.names.items
