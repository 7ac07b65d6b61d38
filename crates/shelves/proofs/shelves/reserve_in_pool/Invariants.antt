-- The shelves up to the index have the room; they stay empty, and no room falls.
use Rattle.std.proofs.Common.{◌≤◌, ℕ, take}
use Rattle.std.specs.List.{AllByRecursion}
use Rattle.shelves.specs.Rooms.{AreFresh}
use Rattle.shelves.proofs.shelves.reserve_in_pool.Given as goal

abbrev pub invariant-loop-shelf : goal.invariant-loop-shelf
invariant-loop-shelf g l = record {
  pool : (spare : ℕ) → AreFresh spare l.initial.fresh → AreFresh spare l.fresh;
  done : AllByRecursion (λ shelf. l.count ≤ shelf.spare) (take l.shelf-index l.fresh);
}
