-- The key is above what stands before the part that is left, and below what stands after it.
use Rattle.std.proofs.Common.{◌≤◌, ◌-◌, take, drop, length}
use Rattle.doc_tree.proofs.Place.{IsAbove, IsBelow}
use Rattle.doc_tree.proofs.tree.Fields.place_of.Given as goal

abbrev pub invariant-loop-low : goal.invariant-loop-low
invariant-loop-low l = record {
  order : l.low ≤ l.high;
  within : l.high ≤ length l.self;
  above : IsAbove l.key (take l.low l.self);
  below : IsBelow l.key (drop l.high l.self);
}

abbrev pub decreases-loop-low : goal.decreases-loop-low
decreases-loop-low l = l.high - l.low
