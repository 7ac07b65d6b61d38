use Rattle.dep_solver.proofs.CopyLemmas.{copies_more}
use Rattle.dep_solver.proofs.roots.copy_pins.Goals as goal

pub loop-pin-preserved : goal.loop-pin-preserved
loop-pin-preserved c =
    copies_more c.as_slice-pin-items.result.now c.args.pins.now c.loop-pin.copies.items c.push.new.self.items c.loop-pin.pin-index c.pin-item.result _ c.as_slice-pin-items.ensures
    c.loop-pin-test.true c.pin-item.is c.in_ok-copy.ensures c.loop-pin.invariant c.in_ok-push.ensures.items
