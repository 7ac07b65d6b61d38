-- The next name is above those before it.
use Rattle.std.proofs.Common.{arith, ◌∙◌}
use Rattle.run_lists.proofs.OrderLemmas.{next_in_order}
use Rattle.run_lists.proofs.storing.by_name_tree.Goals as goal

pub push-requires : goal.push-requires
push-requires c =
    next_in_order c.args.lists.now c.as_slice-named-items.result.now c.loop-named.named-index c.named-item.result c.loop-named.made c.in_ok-name.name
    c.as_slice-named-items.ensures (omega arith) c.named-item.is (c.in_ok-name.ensures ∙ c.as_text.ensures.value) c.loop-named.invariant c.requires
