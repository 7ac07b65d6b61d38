use Rattle.std.proofs.Common.{◌≡◌, ◌+◌, ◌≤◌, drop}
use Rattle.org_core.specs.FileMoves.{shelved_by}
use Rattle.org_core.proofs.moves.shelved_by.Given as goal

-- those so far and those to come are all, and there are no more than moves were looked at
abbrev pub invariant-loop-one : goal.invariant-loop-one
invariant-loop-one l = (l.count + shelved_by (drop l.one-index l.moves) ≡ shelved_by l.moves) × (l.count ≤ l.one-index)
