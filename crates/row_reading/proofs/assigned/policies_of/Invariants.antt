-- The fields so far are those of the assignments so far.
use Rattle.std.proofs.Common.{◌≡◌, map, take}
use Rattle.org_rows.specs.Bodies.{assigned_pair}
use Rattle.row_reading.proofs.assigned.policies_of.Given as goal

abbrev pub invariant-loop-policy : goal.invariant-loop-policy
invariant-loop-policy l = l.fields ≡ map assigned_pair (take l.policy-index l.policy-items)
