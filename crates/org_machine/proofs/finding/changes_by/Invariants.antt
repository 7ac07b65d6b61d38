use Rattle.std.proofs.Common.{◌≡◌, ◌++◌, drop}
use Rattle.org_machine.specs.Finding as spec
use Rattle.org_machine.proofs.finding.changes_by.Given as goal

-- the changes so far, and those of the moves that are left
abbrev pub invariant-loop-one : goal.invariant-loop-one
invariant-loop-one l = l.changes ++ spec.changes_by l.org l.there (drop l.one-index l.moves) ≡ spec.changes_by l.org l.fn.there l.moves
