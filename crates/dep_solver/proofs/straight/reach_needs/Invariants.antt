-- With the needs that are left, the names are those that all the needs give, and each has its mark.
use Rattle.std.proofs.Common.{◌≡◌, drop}
use Rattle.dep_solver.specs.Search.{seen}
use Rattle.dep_solver.specs.Straight.{AreReached}
use Rattle.dep_solver.specs.Walks.{with_needs}
use Rattle.dep_solver.proofs.straight.reach_needs.Given as goal

abbrev pub invariant-loop-need : goal.invariant-loop-need
invariant-loop-need l =
    (with_needs (seen l.names.items) (drop l.need-index l.needs) ≡ with_needs (seen l.initial.names.items) l.needs) × AreReached (seen l.names.items) l.reached.items
