use Rattle.resource_core.specs.Linking.{links_by}
use Rattle.resource_core.proofs.EachLemmas.{links_more}
use Rattle.resource_core.proofs.linking.links_of.Goals as goal

pub loop-resource-preserved : goal.loop-resource-preserved
loop-resource-preserved c =
    links_more c.args.drafts.now.resources.items _ c.loop-resource.resource-index c.resource-item.result _ (links_by c.loop-resource.links) _
    c.loop-resource-test.true c.resource-item.is c.in_ok-link.ensures c.loop-resource.invariant
