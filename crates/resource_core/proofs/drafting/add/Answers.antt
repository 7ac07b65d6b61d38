use Rattle.resource_core.proofs.TitleLemmas.{firsts_more}
use Rattle.std.proofs.Common.{ap, length, List}
use Rattle.resource_core.specs.declared.resources.Resource.{Resource}
use Rattle.resource_core.proofs.drafting.add.Goals as goal

pub returns-clause-firsts : goal.returns-clause-firsts
returns-clause-firsts c =
    firsts_more c.args.drafts.now.resources.items c.push.new.self.items c.args.made c.in_ok-title.title _ c.args.drafts.now.firsts c.note.new.firsts c.requires c.in_ok-title.ensures (ap (λ (rs : List Resource). length rs) c.as_slice-place.ensures.value)
    c.in_ok-note.ensures c.in_ok-push.ensures.items
