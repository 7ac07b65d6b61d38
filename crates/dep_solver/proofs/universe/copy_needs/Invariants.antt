-- The copies so far are those of the first items.
use Rattle.std.proofs.Common.{◌≡◌, take}
use Rattle.dep_solver.proofs.universe.copy_needs.Given as goal

abbrev pub invariant-loop-need : goal.invariant-loop-need
invariant-loop-need l = l.copies.items ≡ take l.need-index l.needs
