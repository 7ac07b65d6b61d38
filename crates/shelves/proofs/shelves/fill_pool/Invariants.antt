-- The pool grows by shelves with the room.
use Rattle.std.proofs.Common.{◌≤◌, ◌-◌, ℕ, length}
use Rattle.shelves.specs.Rooms.{AreFresh}
use Rattle.shelves.proofs.shelves.fill_pool.Given as goal

abbrev pub invariant-loop-alloc : goal.invariant-loop-alloc
invariant-loop-alloc g l = record {
  pool : (spare : ℕ) → spare ≤ l.count → AreFresh spare l.initial.fresh.items → AreFresh spare l.fresh.items;
  len : length l.initial.fresh.items ≤ length l.fresh.items;
}

abbrev pub decreases-loop-alloc : goal.decreases-loop-alloc
decreases-loop-alloc g l = l.count - length l.fresh.items
