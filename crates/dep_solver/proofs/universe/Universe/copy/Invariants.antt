-- The copies so far are those of the first items.
use Rattle.std.proofs.Common.{◌≡◌, take}
use Rattle.dep_solver.proofs.universe.Universe.copy.Given as goal

abbrev pub invariant-loop-cookbook : goal.invariant-loop-cookbook
invariant-loop-cookbook l = l.copies.items ≡ take l.cookbook-index l.self.cookbooks
