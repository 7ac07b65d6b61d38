-- The marks so far are those of the first names.
use Rattle.std.proofs.Common.{take}
use Rattle.dep_solver.specs.Search.{seen}
use Rattle.dep_solver.specs.Straight.{AreReached}
use Rattle.dep_solver.proofs.straight.all_reached.Given as goal

abbrev pub invariant-loop-name : goal.invariant-loop-name
invariant-loop-name l = AreReached (seen (take l.name-index l.names)) l.marks.items
