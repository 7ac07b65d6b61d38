-- Each before the index is below the one after it.
use Rattle.doc_tree.specs.Text.{text_cmp}
use Rattle.version_rules.specs.declared.needs.Need.{Need}
use Rattle.dep_solver.proofs.OrderLemmas.{RisesTo}
use Rattle.dep_solver.proofs.universe.do_needs_rise.Given as goal

abbrev pub invariant-loop-index : goal.invariant-loop-index
invariant-loop-index l = RisesTo (λ (n : Need). n.name) text_cmp l.needs l.index
