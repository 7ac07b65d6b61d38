-- The numbers grow one by one.
use Rattle.std.proofs.Common.{length}
use Rattle.std.specs.Vec.{vec_capacity}
use Rattle.search_index.proofs.NumberedLemmas.{growing_step}
use Rattle.search_index.proofs.numbered_texts.NumberedTexts.grow.Goals as goal

pub loop-fresh-preserved : goal.loop-fresh-preserved
loop-fresh-preserved c =
    let was = c.loop-fresh.self-inside in
    growing_step c.reserve.new.self.items was.items.items c.push_reserved.new.self.items was.free.items c.push_reserved-in-loop-fresh.new.self.items (length c.reserve-2.new.self.items)
    (vec_capacity was.items) (vec_capacity was.free) (vec_capacity c.push_reserved.new.self) (vec_capacity c.push_reserved-in-loop-fresh.new.self) c.loop-fresh.fresh c.in-Some.size
    c.loop-fresh.invariant c.loop-fresh-test.true c.push_reserved.ensures.items c.push_reserved-in-loop-fresh.ensures.items c.push_reserved.ensures.capacity c.push_reserved-in-loop-fresh.ensures.capacity
