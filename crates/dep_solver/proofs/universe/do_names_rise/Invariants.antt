-- Each before the index is below the one after it.
use Rattle.doc_tree.specs.Text.{text_cmp}
use Rattle.dep_solver.specs.declared.universe.Cookbook.{Cookbook}
use Rattle.dep_solver.proofs.OrderLemmas.{RisesTo}
use Rattle.dep_solver.proofs.universe.do_names_rise.Given as goal

abbrev pub invariant-loop-index : goal.invariant-loop-index
invariant-loop-index l = RisesTo (λ (c : Cookbook). c.name) text_cmp l.cookbooks l.index
