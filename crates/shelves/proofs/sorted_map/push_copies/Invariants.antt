use Rattle.std.proofs.Common.{◌≡◌, take}
use Rattle.shelves.proofs.sorted_map.push_copies.Given as goal

-- the entries so far
abbrev pub invariant-loop-key : goal.invariant-loop-key
invariant-loop-key g l = l.made.items ≡ take l.key-index l.entries
