use Rattle.std.proofs.Common.{◌∙◌, ap}
use Rattle.std.specs.FinMap as finite
use Rattle.membership.specs.TextSets.{in_order}
use Rattle.membership.specs.Rooms.{KeptGroups}
use Rattle.membership.proofs.MemberNamesLemmas.{keys-seen}
use Rattle.membership.proofs.group_map.GroupMap.names.Goals as goal

pub returns-clause-value : goal.returns-clause-value
returns-clause-value c =
    c.into_texts.ensures.value
    ∙ c.in_ok-of_copies.ensures
    ∙ ap in_order (c.as_slice.ensures ∙ c.keys.ensures.rest)
    ∙ keys-seen c.self.inside.items.entries
    ∙ ap (λ (kept : KeptGroups). finite.keys kept.groups) c.self.view_is
