use Rattle.std.proofs.Common.{◌∙◌, ap, sym, subst, bytes_eq}
use Rattle.std.specs.Cmp.Lexicographic.{bytes_decides}
use Rattle.membership.specs.Leading.{Tells}
use Rattle.membership.specs.Rooms.{KeptGroups}
use Rattle.membership.proofs.RoomLemmas.{has_found}
use Rattle.membership.proofs.PlacesLemmas.{place_found, belongs-found, belongs-absent}
use Rattle.membership.proofs.group_map.GroupMap.belongs.Goals as goal

pub returns-in-Some : goal.returns-in-Some
returns-in-Some c =
    let place = place_found (bytes_eq c.args.name.now) c.self.inside.items.entries c.in-Some.place c.in-Some.ensures.index in
    belongs-found c.self.inside.items.entries c.args.self.now.groups c.as_slice.result.now c.args.caller.now c.in-Some.ensures.unique (ap (λ (kept : KeptGroups). kept.groups) c.self.view_is) (subst (Tells c.self.inside.items.entries) (sym c.as_slice.ensures.value) c.self.invariant.tells)
    c.args.name.now c.in-Some.place place.0 c.is_member_from.result place.1 (sym ((bytes_decides c.args.name.now place.0.0).0 place.2)) c.is_member_from.ensures

pub returns-in-None : goal.returns-in-None
returns-in-None c =
    belongs-absent c.self.inside.items.entries c.args.self.now.groups c.self.inside.cells.items c.args.caller.now c.in-None.ensures.unique (ap (λ (kept : KeptGroups). kept.groups) c.self.view_is) c.self.invariant.tells
    c.args.name.now (sym (has_found c.self.inside.items.entries c.args.self.now.groups c.args.name.now (ap (λ (kept : KeptGroups). kept.groups) c.self.view_is)) ∙ sym c.in-None.ensures.found)
