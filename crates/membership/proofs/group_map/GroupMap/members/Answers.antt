use Rattle.std.proofs.Common.{◌≡◌, ◌∙◌, ap, sym, subst, Some, None, Option, IfOk}
use Rattle.membership.specs.Members.{Members}
use Rattle.membership.specs.MemberNames.{members_named}
use Rattle.membership.specs.Rooms.{KeptGroups}
use Rattle.membership.proofs.RoomLemmas.{members_found}
use Rattle.membership.proofs.group_map.GroupMap.members.Goals as goal

pub returns-in-Some-clause-value : goal.returns-in-Some-clause-value
returns-in-Some-clause-value c =
    subst (λ (found : Option Members). IfOk c.names.result (λ names. names ≡ members_named c.args.kind found))
    (sym (members_found c.self.inside.items.entries c.args.self.now.groups c.args.name.now (Some c.in-Some.group.now) (ap (λ (kept : KeptGroups). kept.groups) c.self.view_is) c.in-Some.ensures.value))
    c.names.ensures.value

pub returns-in-None-clause-value : goal.returns-in-None-clause-value
returns-in-None-clause-value c =
    c.into_texts.ensures.value
    ∙ c.new.ensures
    ∙ ap (members_named c.args.kind) (sym (members_found c.self.inside.items.entries c.args.self.now.groups c.args.name.now None (ap (λ (kept : KeptGroups). kept.groups) c.self.view_is) c.in-None.ensures.value))
