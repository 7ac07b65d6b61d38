use Rattle.resource_core.specs.Drafting.{given_with}
use Rattle.resource_core.specs.Titles.{pairs_by}
use Rattle.resource_core.proofs.EachLemmas.{drafts_more}
use Rattle.resource_core.proofs.drafting.drafts_of.Goals as goal

pub loop-fields-preserved : goal.loop-fields-preserved
loop-fields-preserved c = (
  drafts_more (given_with c.args.merged.now.document c.args.created.now) pairs_by c.args.all.now c.loop-fields.fields-index c.fields-item.result c.loop-fields.drafts.resources.items _ c.in_ok-made.made
      c.loop-fields-test.true c.fields-item.is c.in_ok-made.ensures c.in_ok-add.ensures.resources c.loop-fields.invariant.0,
  c.in_ok-add.ensures.firsts,
)
