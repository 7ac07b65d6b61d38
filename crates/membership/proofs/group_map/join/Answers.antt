use Rattle.std.proofs.Common.{◌≡◌, ◌∙◌, Some, refl, sym, ap, subst, bytes_eq, rules, arith}
use Rattle.membership.specs.Changes.{joined}
use Rattle.membership.specs.Leading.{KeepsLists, UnlessGroup, listing}
use Rattle.membership.specs.Members.{Members}
use Rattle.membership.specs.Rooms.{groups_seen, rooms_seen, room_of}
use Rattle.membership.proofs.KeepingLemmas.{unless_group, lists_written, joined_lists}
use Rattle.membership.proofs.RoomLemmas.{room_found, groups_changed, groups_unchanged, room_written, others_room}
use Rattle.membership.proofs.group_map.join.Goals as goal

pub returns-clause-groups : goal.returns-clause-groups
returns-clause-groups c =
    groups_changed c.args.items.now.entries (c.get_mut.follows.lender c.join.new.self).entries (groups_seen c.args.items.now.entries) c.args.name.now (joined c.args.kind c.args.member) c.in-Some.group.now c.join.new.self refl c.in-Some.ensures.value
    ((c.get_mut.follows.holds c.join.new.self).3 (search rules)).0 c.join.ensures.members

pub returns-in_default-clause-groups : goal.returns-in_default-clause-groups
returns-in_default-clause-groups c =
    let same : c.get_mut.follows.lender-at-none ≡ c.args.items.now = search rules in
    ap (λ items. groups_seen items.entries) same ∙ groups_unchanged c.args.items.now.entries (groups_seen c.args.items.now.entries) c.args.name.now (joined c.args.kind c.args.member) refl c.in_default.ensures.value

pub returns-clause-room : goal.returns-clause-room
returns-clause-room c =
    let old : room_of (rooms_seen c.args.items.now.entries) c.args.name.now ≡ c.in-Some.group.now.spare = room_found c.args.items.now.entries (rooms_seen c.args.items.now.entries) c.args.name.now (Some c.in-Some.group.now) refl c.in-Some.ensures.value in
    let now : room_of (rooms_seen (c.get_mut.follows.lender c.join.new.self).entries) c.args.name.now ≡ c.join.new.self.spare = room_written c.args.items.now.entries (c.get_mut.follows.lender c.join.new.self).entries c.args.name.now c.join.new.self ((c.get_mut.follows.holds c.join.new.self).3 (search rules)).0 in
    let kept = c.join.ensures.spare in
    omega (arith, old, now, kept)

pub returns-clause-others : goal.returns-clause-others
returns-clause-others c =
    others_room c.args.items.now.entries (c.get_mut.follows.lender c.join.new.self).entries (rooms_seen c.args.items.now.entries) c.args.name.now c.join.new.self refl
    ((c.get_mut.follows.holds c.join.new.self).3 (search rules)).0

pub join-requires : goal.join-requires
join-requires c =
    let old : room_of (rooms_seen c.args.items.now.entries) c.args.name.now ≡ c.in-Some.group.now.spare = room_found c.args.items.now.entries (rooms_seen c.args.items.now.entries) c.args.name.now (Some c.in-Some.group.now) refl c.in-Some.ensures.value in
    let some = c.requires in
    omega (arith, old, some)

pub returns-clause-len : goal.returns-clause-len
returns-clause-len c = (c.get_mut.follows.holds c.join.new.self).2

pub returns-clause-lists : goal.returns-clause-lists
returns-clause-lists c =
    unless_group c.args.kind _ (KeepsLists c.args.items.now.entries (c.get_mut.follows.lender c.join.new.self).entries)
    (λ same. ap listing (c.get_mut.follows.holds c.join.new.self).0 ∙ lists_written (bytes_eq c.args.name.now) c.args.items.now.entries c.in-Some.group.now c.join.new.self c.in-Some.ensures.value same)
    (subst (λ (members : Members). UnlessGroup c.args.kind (members.groups ≡ c.in-Some.group.now.members.groups)) (sym c.join.ensures.members) (joined_lists c.args.kind c.args.member c.in-Some.group.now.members))
