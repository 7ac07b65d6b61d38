-- The needs so far are marked behind the others.
use Rattle.std.proofs.Common.{◌++◌, List, take}
use Rattle.version_rules.specs.declared.needs.Need.{Need}
use Rattle.dep_solver.specs.Straight.{AreNeeded}
use Rattle.dep_solver.proofs.straight.mark_needs.Given as goal

abbrev pub invariant-loop-need : goal.invariant-loop-need
invariant-loop-need l = (before : List Need) → AreNeeded before l.initial.needed.items → AreNeeded (before ++ take l.need-index l.needs) l.needed.items
