-- Each before the index is below the one after it.
use Rattle.version_rules.specs.Order.{version_cmp}
use Rattle.dep_solver.specs.declared.universe.Release.{Release}
use Rattle.dep_solver.proofs.OrderLemmas.{RisesTo}
use Rattle.dep_solver.proofs.universe.do_versions_rise.Given as goal

abbrev pub invariant-loop-index : goal.invariant-loop-index
invariant-loop-index l = RisesTo (λ (r : Release). r.version) version_cmp l.releases l.index
