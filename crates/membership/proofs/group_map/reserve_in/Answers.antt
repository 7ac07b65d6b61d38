use Rattle.std.proofs.Common.{◌≡◌, ◌≤◌, ◌∙◌, Some, None, OnOk, refl, sym, ap, bytes_eq, subst, rules, arith, true, true≢false, is_some}
use Rattle.std.specs.FinMap as finite
use Rattle.membership.specs.Leading.{listing}
use Rattle.membership.specs.Members.{Members}
use Rattle.membership.specs.Rooms.{groups_seen, rooms_seen, room_of}
use Rattle.membership.proofs.KeepingLemmas.{lists_written}
use Rattle.membership.proofs.RoomLemmas.{members_found, room_found, groups_same, room_written, others_room, even_if}
use Rattle.membership.proofs.group_map.reserve_in.Goals as goal

pub returns-clause-groups : goal.returns-clause-groups
returns-clause-groups c =
    groups_same c.args.items.now.entries (c.get_mut.follows.lender c.reserve.new.self).entries (groups_seen c.args.items.now.entries) c.args.name.now c.in-Some.group.now c.reserve.new.self refl c.in-Some.ensures.value
    ((c.get_mut.follows.holds c.reserve.new.self).3 (search rules)).0 c.reserve.ensures.members

pub returns-clause-ok : goal.returns-clause-ok
returns-clause-ok c =
    let now : room_of (rooms_seen (c.get_mut.follows.lender c.reserve.new.self).entries) c.args.name.now ≡ c.reserve.new.self.spare = room_written c.args.items.now.entries (c.get_mut.follows.lender c.reserve.new.self).entries c.args.name.now c.reserve.new.self ((c.get_mut.follows.holds c.reserve.new.self).3 (search rules)).0 in
    subst (λ room. OnOk c.reserve.result (is_some (finite.get (groups_seen c.args.items.now.entries) c.args.name.now) ≡ true → c.args.count ≤ room)) (sym now) (even_if c.reserve.result (is_some (finite.get (groups_seen c.args.items.now.entries) c.args.name.now) ≡ true) (c.args.count ≤ c.reserve.new.self.spare) c.reserve.ensures.ok)

pub returns-in_default-clause-ok : goal.returns-in_default-clause-ok
returns-in_default-clause-ok c =
    λ there. absurd (true≢false (sym there ∙ ap is_some (members_found c.args.items.now.entries (groups_seen c.args.items.now.entries) c.args.name.now None refl c.in_default.ensures.value)))

pub returns-clause-room : goal.returns-clause-room
returns-clause-room c =
    let old : room_of (rooms_seen c.args.items.now.entries) c.args.name.now ≡ c.in-Some.group.now.spare = room_found c.args.items.now.entries (rooms_seen c.args.items.now.entries) c.args.name.now (Some c.in-Some.group.now) refl c.in-Some.ensures.value in
    let now : room_of (rooms_seen (c.get_mut.follows.lender c.reserve.new.self).entries) c.args.name.now ≡ c.reserve.new.self.spare = room_written c.args.items.now.entries (c.get_mut.follows.lender c.reserve.new.self).entries c.args.name.now c.reserve.new.self ((c.get_mut.follows.holds c.reserve.new.self).3 (search rules)).0 in
    let kept = c.reserve.ensures.spare in
    omega (arith, old, now, kept)

pub returns-clause-others : goal.returns-clause-others
returns-clause-others c =
    others_room c.args.items.now.entries (c.get_mut.follows.lender c.reserve.new.self).entries (rooms_seen c.args.items.now.entries) c.args.name.now c.reserve.new.self refl
    ((c.get_mut.follows.holds c.reserve.new.self).3 (search rules)).0

pub returns-clause-lists : goal.returns-clause-lists
returns-clause-lists c =
    ap listing (c.get_mut.follows.holds c.reserve.new.self).0
    ∙ lists_written (bytes_eq c.args.name.now) c.args.items.now.entries c.in-Some.group.now c.reserve.new.self c.in-Some.ensures.value (ap (λ (members : Members). members.groups) c.reserve.ensures.members)
