-- The first items are the same.
use Rattle.std.proofs.Common.{◌≡◌, take}
use Rattle.dep_solver.proofs.same.same_releases.Given as goal

abbrev pub invariant-loop-index : goal.invariant-loop-index
invariant-loop-index l = take l.index l.ones ≡ take l.index l.others
