use Rattle.std.proofs.Common.{arith, sym, ◌∙◌}
use Rattle.doc_tree.specs.Tree.{pair_of}
use Rattle.policy_locks.specs.Parts as spec
use Rattle.run_lists.proofs.EachLemmas.{made_more}
use Rattle.policy_locks.proofs.parts.locks_of.Goals as goal

pub loop-field-preserved : goal.loop-field-preserved
loop-field-preserved c =
    made_more spec.cookbook_lock pair_of _ _ c.loop-field.field-index c.field-item.result _ _ c.in-Some.lock (omega arith) c.field-item.is (sym c.in_ok-cookbook_lock.ensures ∙ c.in-Some.is) c.in_ok-push-in-Some.ensures.ok c.loop-field.invariant
