-- Each release before the index that leaves one of the values has its bit.
use Rattle.std.proofs.Common.{◌≡◌}
use Rattle.std.specs.Int.{bit_at}
use Rattle.dep_solver.proofs.ClashLemmas.{LeavesOne}
use Rattle.dep_solver.proofs.ValueLemmas.{BitsBefore}
use Rattle.dep_solver.proofs.clashes.leaving.Given as goal

abbrev pub invariant-loop-index : goal.invariant-loop-index
invariant-loop-index l = (bit_at l.found 0 ≡ 1) × BitsBefore (LeavesOne l.values) l.masks l.index l.found
