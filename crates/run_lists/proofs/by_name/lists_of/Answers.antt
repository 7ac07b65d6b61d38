use Rattle.std.proofs.Common.{arith, sym, ◌∙◌}
use Rattle.doc_tree.specs.Tree.{pair_of}
use Rattle.run_lists.specs.ByName as spec
use Rattle.run_lists.proofs.EachLemmas.{made_more}
use Rattle.run_lists.proofs.by_name.lists_of.Goals as goal

pub loop-field-preserved : goal.loop-field-preserved
loop-field-preserved c =
    made_more (spec.named_run_list c.args.allowed) pair_of _ _ c.loop-field.field-index c.field-item.result _ _ c.in-Some.list (omega arith) c.field-item.is (sym c.in_ok-named_run_list.ensures ∙ c.in-Some.is) c.in_ok-push-in-Some.ensures.ok c.loop-field.invariant
