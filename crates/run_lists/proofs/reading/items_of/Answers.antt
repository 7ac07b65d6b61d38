use Rattle.std.proofs.Common.{arith, sym, ◌∙◌}
use Rattle.doc_tree.specs.Tree.{doc_of}
use Rattle.run_lists.specs.Reading as spec
use Rattle.run_lists.proofs.EachLemmas.{made_more}
use Rattle.run_lists.proofs.reading.items_of.Goals as goal

pub loop-tree-preserved : goal.loop-tree-preserved
loop-tree-preserved c =
    made_more spec.item_of doc_of _ _ c.loop-tree.tree-index c.tree-item.result _ _ c.in-Some.item (omega arith) c.tree-item.is (sym c.in_ok-item_of.ensures ∙ c.in-Some.is) c.in_ok-push-in-Some.ensures.ok c.loop-tree.invariant
