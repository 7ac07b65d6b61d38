-- What is there stays at each exit, and the number rises where all room is there.
use Rattle.std.proofs.Common.{sym, subst, arith}
use Rattle.shelves.specs.Rooms.{AreShelves}
use Rattle.shelves.proofs.shelves.Shelves.reserve.Goals as goal

pub invariant_of-self : goal.invariant_of-self
invariant_of-self g c = record {
  shelves = subst (λ l. AreShelves g.K.Ord.cmp l) (sym c.make_room.ensures.seen) c.self.invariant.shelves;
  room = c.make_room.ensures.room c.self.inside.spare (omega (arith, c.if-count-self.true)) c.self.invariant.room;
}

pub invariant_of-self-then-count-self : goal.invariant_of-self-then-count-self
invariant_of-self-then-count-self g c = record {
  shelves = subst (λ l. AreShelves g.K.Ord.cmp l) (sym c.make_room.ensures.seen) c.self.invariant.shelves;
  room = c.in_ok-make_room.ensures.ok c.self.inside.spare c.self.invariant.room.pool;
}
