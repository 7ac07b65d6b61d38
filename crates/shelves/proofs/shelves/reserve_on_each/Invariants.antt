-- The shelves up to the index have the room; what stands on them stays, and no room falls.
use Rattle.std.proofs.Common.{◌≡◌, ℕ, take}
use Rattle.shelves.specs.Rooms.{shelves_seen, HaveRoomEach}
use Rattle.shelves.proofs.shelves.reserve_on_each.Given as goal

abbrev pub invariant-loop-shelf : goal.invariant-loop-shelf
invariant-loop-shelf g l = record {
  seen : shelves_seen l.shelves ≡ shelves_seen l.initial.shelves;
  room : (spare : ℕ) → HaveRoomEach spare l.initial.shelves → HaveRoomEach spare l.shelves;
  done : HaveRoomEach l.count (take l.shelf-index l.shelves);
}
