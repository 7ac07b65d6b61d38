-- The numbers grow one by one.
use Rattle.std.specs.Vec.{vec_capacity}
use Rattle.ordered_keys.specs.Nodes.{numbers_in}
use Rattle.ordered_keys.proofs.ItemLemmas.{growing_step}
use Rattle.ordered_keys.proofs.arranged.Arranged.grow.Goals as goal

pub loop-fresh-preserved : goal.loop-fresh-preserved
loop-fresh-preserved g c =
    let was = c.loop-fresh.self-inside in
    growing_step c.reserve-2.new.self.items was.items.items c.push_reserved.new.self.items was.nodes.items c.push_reserved-in-loop-fresh.new.self.items (numbers_in c.reserve.new.self.items c.self.inside.top) was.top was.free was.room c.self.inside.room
    (vec_capacity was.items) (vec_capacity was.nodes) (vec_capacity c.push_reserved.new.self) (vec_capacity c.push_reserved-in-loop-fresh.new.self) c.loop-fresh.fresh c.in-Some.size
    c.loop-fresh.invariant c.loop-fresh-test.true c.push_reserved.ensures.items c.push_reserved-in-loop-fresh.ensures.items c.push_reserved.ensures.capacity c.push_reserved-in-loop-fresh.ensures.capacity
