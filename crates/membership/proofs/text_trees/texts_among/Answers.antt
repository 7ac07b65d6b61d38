use Rattle.std.proofs.Common.{arith}
use Rattle.doc_tree.specs.Doc.{docs_of}
use Rattle.membership.specs.TextTrees.{texts_among}
use Rattle.membership.proofs.TextTreesLemmas.{one_more}
use Rattle.membership.proofs.text_trees.texts_among.Goals as goal

pub loop-tree-preserved : goal.loop-tree-preserved
loop-tree-preserved c =
    one_more _ c.loop-tree.tree-index c.tree-item.result c.loop-tree.texts.items _ (texts_among (docs_of c.args.trees.now)) (omega arith) c.tree-item.is c.in_ok-push_text.ensures c.loop-tree.invariant
