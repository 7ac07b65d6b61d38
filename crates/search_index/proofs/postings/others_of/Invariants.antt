-- The walk has found what the places behind it have at their other side.
use Rattle.std.proofs.Common.{◌-◌, length}
use Rattle.search_index.proofs.WalkLemmas.{IsWalk}
use Rattle.search_index.proofs.postings.others_of.Given as goal

abbrev pub invariant-loop-at : goal.invariant-loop-at
invariant-loop-at l = IsWalk l.side l.items l.owner l.initial.at l.found.items l.at

abbrev pub decreases-loop-at : goal.decreases-loop-at
decreases-loop-at l = length l.items.slots - length l.found.items
