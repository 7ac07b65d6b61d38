-- The flags so far are those of the first ones.
use Rattle.dep_solver.specs.Search.{AreFlagsOf}
use Rattle.dep_solver.proofs.DeadLemmas.{ZipsBefore}
use Rattle.dep_solver.proofs.dead.next_flags.Given as goal

abbrev pub invariant-loop-cookbook : goal.invariant-loop-cookbook
invariant-loop-cookbook l = ZipsBefore (AreFlagsOf l.universe l.rules l.roots l.dead) l.universe.cookbooks l.cookbook-index l.flags
