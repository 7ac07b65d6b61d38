-- What is copied is in order as what is there, and no room is told.
use Rattle.std.proofs.Common.{◌∙◌, ap, sym, subst, arith}
use Rattle.shelves.specs.Rooms.{shelves_seen, AreShelves, AreFresh}
use Rattle.shelves.proofs.RoomLemmas.{no_room_each}
use Rattle.shelves.proofs.shelves.Shelves.copy.Goals as goal

pub invariant_of-result : goal.invariant_of-result
invariant_of-result g c = record {
  shelves = subst (λ l. AreShelves g.K.Ord.cmp l) (sym (c.in_ok-push_copies.ensures ∙ ap shelves_seen c.deref.ensures.value)) c.self.invariant.shelves;
  room = record {
    more = omega arith;
    each = no_room_each c.push_copies.new.made.items;
    count = omega arith;
    pool = subst (λ l. AreFresh 0 l) (sym c.new.ensures.items) tt;
  };
}
