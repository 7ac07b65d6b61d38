use Rattle.std.proofs.Common.{◌≡◌, ◌+◌, ◌≤◌, drop}
use Rattle.org_core.specs.Moves.{puts_in}
use Rattle.org_core.proofs.moves.puts_in.Given as goal

-- those so far and those to come are all, and there are no more than moves were looked at
abbrev pub invariant-loop-one : goal.invariant-loop-one
invariant-loop-one l = (l.count + puts_in (drop l.one-index l.moves) ≡ puts_in l.moves) × (l.count ≤ l.one-index)
