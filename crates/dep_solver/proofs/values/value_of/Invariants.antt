-- No release before the index has the version.
use Rattle.dep_solver.proofs.EachLemmas.{NoneBefore}
use Rattle.dep_solver.proofs.ValueLemmas.{HasVersion}
use Rattle.dep_solver.proofs.values.value_of.Given as goal

abbrev pub invariant-loop-index : goal.invariant-loop-index
invariant-loop-index l = NoneBefore (HasVersion l.version) l.releases l.index
