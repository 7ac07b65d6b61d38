use Rattle.std.proofs.Common.{◌∙◌, ap}
use Rattle.membership.specs.TextSets.{in_order}
use Rattle.membership.specs.MemberNames.{listed_names}
use Rattle.membership.specs.Rooms.{KeptNames}
use Rattle.membership.proofs.MemberNamesLemmas.{listed_names-seen}
use Rattle.membership.proofs.name_set.NameSet.names.Goals as goal

pub returns-clause-value : goal.returns-clause-value
returns-clause-value c =
    c.into_texts.ensures.value
    ∙ c.in_ok-of_copies.ensures
    ∙ ap in_order c.as_slice.ensures.keys
    ∙ listed_names-seen c.self.inside.items.keys
    ∙ ap (λ (kept : KeptNames). listed_names kept.names) c.self.view_is
