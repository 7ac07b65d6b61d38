use Rattle.std.proofs.Common.{arith}
use Rattle.resource_core.specs.Titles.{pairs_by}
use Rattle.resource_core.proofs.CreatedLemmas.{has_more}
use Rattle.resource_core.proofs.created.created_in.Goals as goal

pub loop-fields-preserved : goal.loop-fields-preserved
loop-fields-preserved c = has_more pairs_by _ c.loop-fields.fields-index c.fields-item.result _ _ (omega arith) c.fields-item.is c.loop-fields.invariant c.in_ok-add_created.ensures
