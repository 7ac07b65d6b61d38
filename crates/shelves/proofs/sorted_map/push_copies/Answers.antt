use Rattle.shelves.proofs.CopyLemmas.{entry_more}
use Rattle.shelves.proofs.sorted_map.push_copies.Goals as goal

-- the entry of this turn is copied
pub loop-key-preserved : goal.loop-key-preserved
loop-key-preserved g c =
    entry_more c.args.entries.now c.loop-key.made.items c.push.new.self.items c.loop-key.key-index c.loop-key-item.result c.in_ok-duplicate.field-0 c.in_ok-duplicate-2.field-0
    c.loop-key-test.true c.loop-key-item.is c.loop-key.invariant c.in_ok-push.ensures.items c.in_ok-duplicate.ensures c.in_ok-duplicate-2.ensures
