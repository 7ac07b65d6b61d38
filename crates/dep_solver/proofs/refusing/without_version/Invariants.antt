-- The names so far are those of the first roots.
use Rattle.dep_solver.specs.Refusals.{HasNoVersion}
use Rattle.dep_solver.proofs.RefusalLemmas.{ListsBefore}
use Rattle.dep_solver.proofs.refusing.without_version.Given as goal

abbrev pub invariant-loop-name : goal.invariant-loop-name
invariant-loop-name l = ListsBefore (HasNoVersion l.universe l.rules l.roots) l.roots.names l.name-index l.names.items
