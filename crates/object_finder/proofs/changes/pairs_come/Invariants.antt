use Rattle.std.proofs.Common.{◌≡◌, ◌+◌, drop}
use Rattle.object_finder.specs.Changes.{pairs_come}
use Rattle.object_finder.proofs.changes.pairs_come.Given as goal

-- those so far and those to come are all
abbrev pub invariant-loop-change : goal.invariant-loop-change
invariant-loop-change l = l.count + pairs_come (drop l.change-index l.changes) ≡ pairs_come l.changes
