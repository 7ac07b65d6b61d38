use Rattle.std.proofs.Common.{◌≡◌, ◌+◌, ◌≤◌, drop}
use Rattle.object_finder.specs.Changes.{objects_come}
use Rattle.object_finder.proofs.changes.objects_come.Given as goal

-- those so far and those to come are all, and there are no more than changes were looked at
abbrev pub invariant-loop-change : goal.invariant-loop-change
invariant-loop-change l = (l.count + objects_come (drop l.change-index l.changes) ≡ objects_come l.changes) × (l.count ≤ l.change-index)
