-- The flags so far are those of the first ones.
use Rattle.dep_solver.specs.Search.{IsFlag}
use Rattle.dep_solver.proofs.DeadLemmas.{ZipsBefore}
use Rattle.dep_solver.proofs.dead.cookbook_flags.Given as goal

abbrev pub invariant-loop-release : goal.invariant-loop-release
invariant-loop-release l = ZipsBefore (IsFlag l.universe l.rules l.roots l.dead) l.cookbook.releases l.release-index l.flags
