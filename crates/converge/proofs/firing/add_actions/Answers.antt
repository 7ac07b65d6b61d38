-- One action more.
use Rattle.std.proofs.Common.{arith}
use Rattle.converge.proofs.FiringLemmas.{actions_more}
use Rattle.converge.proofs.firing.add_actions.Goals as goal

pub loop-action-preserved : goal.loop-action-preserved
loop-action-preserved c =
    actions_more c.args.place c.args.resource.now c.loop-action.todo.items c.push.new.self.items _ c.args.actions.now c.loop-action.action-index _ c.own_fire.result (omega arith) c.own_fire.ensures c.in_ok-push.ensures.items c.loop-action.invariant
