-- The names so far are those of the first items, and distinct.
use Rattle.std.proofs.Common.{◌≡◌, take}
use Rattle.std.specs.List.{IsDistinct}
use Rattle.dep_solver.specs.Names.{same_name}
use Rattle.run_lists.specs.Asking.{names_in}
use Rattle.run_lists.proofs.asking.names_in.Given as goal

abbrev pub invariant-loop-item : goal.invariant-loop-item
invariant-loop-item l = (l.names ≡ names_in (take l.item-index l.items)) × IsDistinct same_name l.names
