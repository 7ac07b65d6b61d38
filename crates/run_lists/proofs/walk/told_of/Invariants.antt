-- What is still to come completes the visit, and less is left after each turn.
use Rattle.run_lists.specs.Walk.{state_of}
use Rattle.run_lists.proofs.WalkLemmas.{Leads}
use Rattle.run_lists.proofs.WorkLemmas.{work}
use Rattle.run_lists.proofs.walk.told_of.Given as goal

abbrev pub invariant-loop-frame : goal.invariant-loop-frame
invariant-loop-frame l = Leads l.roles.entries l.env l.items (state_of l.walk)

abbrev pub decreases-loop-frame : goal.decreases-loop-frame
decreases-loop-frame l = work l.env l.roles.entries (state_of l.walk)
