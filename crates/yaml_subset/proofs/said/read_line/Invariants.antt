use Rattle.std.proofs.Common.{◌≡◌, ◌+◌, length}
use Rattle.yaml_subset.specs.Said.{behind_marks, said_at}
use Rattle.yaml_subset.proofs.said.read_line.Given as goal

-- the marks so far, and what the line says from here, are what it says
abbrev pub invariant-loop-first : goal.invariant-loop-first
invariant-loop-first l =
    (behind_marks l.heads (said_at l.above l.column l.rest) ≡ said_at 0 0 l.line) × (l.column + length l.rest ≡ length l.line)

abbrev pub decreases-loop-first : goal.decreases-loop-first
decreases-loop-first l = length l.rest
