-- Nothing has to be kept: all values are a mask of each release.
use Rattle.std.proofs.Common.{◌≤◌}
use Rattle.dep_solver.proofs.clashes.mask_of.Given as goal

abbrev pub invariant-loop-need : goal.invariant-loop-need
invariant-loop-need l = 0 ≤ l.need-index
