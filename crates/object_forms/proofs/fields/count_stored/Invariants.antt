-- At most each row so far is counted.
use Rattle.std.proofs.Common.{◌≤◌}
use Rattle.object_forms.proofs.fields.count_stored.Given as goal

abbrev pub invariant-loop-row : goal.invariant-loop-row
invariant-loop-row l = l.count ≤ l.row-index
