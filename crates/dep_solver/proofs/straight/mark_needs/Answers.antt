use Rattle.std.proofs.Common.{refl}
use Rattle.dep_solver.proofs.MarkLemmas.{needs_all, needs_more, needs_none}
use Rattle.dep_solver.proofs.straight.mark_needs.Goals as goal

pub loop-need-init : goal.loop-need-init
loop-need-init c = λ before are. needs_none before c.args.needs.now c.args.needed.now.items are

pub loop-need-preserved : goal.loop-need-preserved
loop-need-preserved c = λ before are.
    needs_more before c.args.needs.now c.loop-need.need-index c.need-item.result c.loop-need.needed.items c.push.new.self.items _ c.loop-need-test.true c.need-item.is refl c.key_of.ensures c.in_ok-push.ensures.items (c.loop-need.invariant before are)

pub returns : goal.returns
returns c = λ before are. needs_all before c.args.needs.now c.loop-need.need-index c.loop-need.needed.items c.loop-need-test.false (c.loop-need.invariant before are)
