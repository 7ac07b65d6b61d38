-- The masks so far are those of the first releases.
use Rattle.dep_solver.specs.Conflicts.{IsMask}
use Rattle.dep_solver.proofs.DeadLemmas.{ZipsBefore}
use Rattle.dep_solver.proofs.clashes.masks_of.Given as goal

abbrev pub invariant-loop-release : goal.invariant-loop-release
invariant-loop-release l = ZipsBefore (IsMask l.universe l.other) l.cookbook.releases l.release-index l.masks.items
