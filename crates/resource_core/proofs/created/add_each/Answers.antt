use Rattle.std.proofs.Common.{arith}
use Rattle.doc_tree.specs.Tree.{doc_of}
use Rattle.resource_core.proofs.CreatedLemmas.{adds_more}
use Rattle.resource_core.proofs.created.add_each.Goals as goal

pub loop-tree-preserved : goal.loop-tree-preserved
loop-tree-preserved c = adds_more doc_of _ c.loop-tree.tree-index c.tree-item.result _ _ _ (omega arith) c.tree-item.is c.loop-tree.invariant c.in_ok-add_one.ensures
