-- Those so far that are wanted.
use Rattle.std.proofs.Common.{◌≡◌, ◌&&◌, ℕ, take}
use Rattle.search_index.specs.Found.{both_are, is_in}
use Rattle.search_index.proofs.found.kept.Given as goal

abbrev pub invariant-loop-number : goal.invariant-loop-number
invariant-loop-number l = (x : ℕ) → is_in l.items.items x ≡ (is_in (take l.number-index l.number-items) x && both_are (is_in l.others x) l.wanted)
