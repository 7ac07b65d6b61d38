use Rattle.dep_solver.proofs.CopyLemmas.{copies_more}
use Rattle.dep_solver.proofs.universe.copy_needs.Goals as goal

pub loop-need-preserved : goal.loop-need-preserved
loop-need-preserved c =
    copies_more c.as_slice-need-items.result.now c.args.needs.now c.loop-need.copies.items c.push.new.self.items c.loop-need.need-index c.need-item.result _ c.as_slice-need-items.ensures
    c.loop-need-test.true c.need-item.is c.in_ok-copy.ensures c.loop-need.invariant c.in_ok-push.ensures.items
