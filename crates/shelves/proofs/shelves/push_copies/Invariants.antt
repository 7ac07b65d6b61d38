use Rattle.std.proofs.Common.{◌≡◌, take}
use Rattle.shelves.specs.Rooms.{shelves_seen}
use Rattle.shelves.proofs.shelves.push_copies.Given as goal

-- the shelves so far
abbrev pub invariant-loop-name : goal.invariant-loop-name
invariant-loop-name g l = shelves_seen l.made.items ≡ shelves_seen (take l.name-index l.shelves)
