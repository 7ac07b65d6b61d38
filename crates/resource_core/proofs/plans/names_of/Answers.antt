use Rattle.std.proofs.Common.{arith, refl}
use Rattle.resource_core.proofs.PlanLemmas.{names_more}
use Rattle.resource_core.proofs.plans.names_of.Goals as goal

pub loop-place-preserved : goal.loop-place-preserved
loop-place-preserved c =
    names_more c.loop-place.names c.add_name.new.names c.args.flags.now c.args.resources.now c.loop-place.place _ c.index-resources-place.result (omega arith) (omega arith) refl c.index-resources-place.is c.in_ok-add_name.ensures c.loop-place.invariant
