use Rattle.std.proofs.Common.{arith}
use Rattle.doc_tree.specs.Tree.{pair_of}
use Rattle.cookbook_meta.proofs.NeedLemmas.{needs_more}
use Rattle.cookbook_meta.proofs.metadata.needs_in.Goals as goal

pub loop-field-preserved : goal.loop-field-preserved
loop-field-preserved c =
    needs_more pair_of _ _ c.loop-field.field-index c.field-item.result _ _ (omega arith) c.field-item.is c.in_ok-push_need.ensures c.loop-field.invariant
