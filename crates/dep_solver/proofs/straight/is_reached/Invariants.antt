-- None before the index has the name.
use Rattle.std.proofs.Common.{◌≡◌, false}
use Rattle.dep_solver.specs.declared.straight.Reached.{Reached}
use Rattle.dep_solver.specs.Names.{same_name}
use Rattle.dep_solver.proofs.EachLemmas.{EachBefore}
use Rattle.dep_solver.proofs.straight.is_reached.Given as goal

abbrev pub invariant-loop-mark : goal.invariant-loop-mark
invariant-loop-mark l = EachBefore (λ (mark : Reached). same_name l.name mark.name.now ≡ false) l.marks l.mark-index
