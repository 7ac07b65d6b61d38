use Rattle.std.proofs.Common.{arith, sym, ◌∙◌}
use Rattle.doc_tree.specs.Tree.{pair_of}
use Rattle.policy_locks.specs.Parts as spec
use Rattle.run_lists.proofs.EachLemmas.{made_more}
use Rattle.policy_locks.proofs.parts.needs_in.Goals as goal

pub loop-field-preserved : goal.loop-field-preserved
loop-field-preserved c =
    made_more spec.need_of pair_of _ _ c.loop-field.field-index c.field-item.result _ _ c.in-Some.need (omega arith) c.field-item.is (sym c.in_ok-need_of.ensures ∙ c.in-Some.is) c.in_ok-push-in-Some.ensures.ok c.loop-field.invariant
