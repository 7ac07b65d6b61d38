-- What is assigned so far is what the fields so far say.
use Rattle.row_reading.proofs.AssignedLemmas.{AssignedSoFar}
use Rattle.row_reading.proofs.assigned.assigned_by.Given as goal

abbrev pub invariant-loop-field : goal.invariant-loop-field
invariant-loop-field l = AssignedSoFar l.field-items l.field-index l.assigned
