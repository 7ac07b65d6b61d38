-- The names before the index are distinct.
use Rattle.std.proofs.Common.{take}
use Rattle.std.specs.List.{IsDistinct}
use Rattle.dep_solver.specs.Names.{same_name}
use Rattle.dep_solver.proofs.roots.are_distinct.Given as goal

abbrev pub invariant-loop-index : goal.invariant-loop-index
invariant-loop-index l = IsDistinct same_name (take l.index l.names)
