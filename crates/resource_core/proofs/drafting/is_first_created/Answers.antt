use Rattle.std.proofs.Common.{ap, ◌∙◌, ◌&&◌, not, bytes_eq}
use Rattle.std.specs.List.{list_any}
use Rattle.resource_core.proofs.TitleLemmas.{absent_title, told_none}
use Rattle.resource_core.specs.Drafting.{made_by}
use Rattle.resource_core.specs.Drafts.{titles}
use Rattle.resource_core.proofs.drafting.is_first_created.Goals as goal

-- the title is created, and no earlier resource has it
pub returns : goal.returns
returns c =
    let earlier = titles (made_by c.args.given) in
    told_none c.get.result _ c.is_none.result c.is_none.ensures c.get.ensures.value
    ∙ absent_title earlier c.args.given.made.now.firsts c.args.own.now c.requires
    ∙ ap (λ b. b && not (list_any (bytes_eq c.args.own.now) earlier)) c.if-not-contains.ensures
