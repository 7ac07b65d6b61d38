use Rattle.std.proofs.Common.{arith}
use Rattle.resource_core.proofs.LinkLemmas.{fires_more, fires_none}
use Rattle.resource_core.proofs.linking.with_heard.Goals as goal

pub loop-one-init : goal.loop-one-init
loop-one-init c = fires_none 0 c.args.own.items

pub loop-one-preserved : goal.loop-one-preserved
loop-one-preserved c =
    fires_more c.args.own.items c.args.heard.now c.loop-one.one-index _ c.loop-one.fires.items _ (omega arith) c.loop-one.invariant c.in_ok-add_heard.ensures
