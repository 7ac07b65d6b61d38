use Rattle.std.proofs.Common.{refl}
use Rattle.policy_locks.specs.Digests.{named_lines}
use Rattle.policy_locks.proofs.LineLemmas.{flat_more, named_added}
use Rattle.policy_locks.proofs.digests.push_lists.Goals as goal

pub loop-named-preserved : goal.loop-named-preserved
loop-named-preserved c =
    flat_more named_lines _ c.loop-named.lines _ c.as_slice-named-items.result.now c.args.lists.now c.loop-named.named-index c.named-item.result (named_lines c.named-item.result)
    c.as_slice-named-items.ensures c.loop-named-test.true c.named-item.is refl c.loop-named.invariant
    (named_added c.loop-named.lines _ _ c.named-item.result c.as_text.result.now c.as_text.ensures.value c.in_ok-push_line.ensures c.in_ok-push_items.ensures)
