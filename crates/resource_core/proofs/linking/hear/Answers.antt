use Rattle.std.proofs.Common.{sym, ◌∙◌}
use Rattle.resource_core.specs.Links as spec
use Rattle.resource_core.proofs.EachLemmas.{entries_more}
use Rattle.resource_core.proofs.linking.hear.Goals as goal

pub loop-entry-preserved : goal.loop-entry-preserved
loop-entry-preserved c =
    entries_more (spec.heard c.args.drafts.now.resources.items c.args.place) c.args.place _ c.args.entries.now c.loop-entry.entry-index c.entry-item.result c.loop-entry.all.items _ c.in-Some.heard
    c.loop-entry-test.true c.entry-item.is (sym c.heard.ensures ∙ c.in-Some.is) c.in_ok-push-in-Some.ensures.items c.loop-entry.invariant
