use Rattle.std.proofs.Common.{◌++◌, codes, ap}
use Rattle.policy_locks.specs.Digests.{item_line}
use Rattle.policy_locks.proofs.LineLemmas.{map_more}
use Rattle.policy_locks.proofs.digests.push_items.Goals as goal

pub loop-item-preserved : goal.loop-item-preserved
loop-item-preserved c =
    map_more item_line _ c.loop-item.lines _ c.as_slice-item-items.result.now c.args.items.now c.loop-item.item-index c.item-item.result _
    c.as_slice-item-items.ensures c.loop-item-test.true c.item-item.is (ap (λ text. codes "run-list-item:" ++ text) c.text.ensures.value) c.loop-item.invariant c.in_ok-push_line.ensures
