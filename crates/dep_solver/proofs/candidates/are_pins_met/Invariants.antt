-- Each before the index passed.
use Rattle.std.proofs.Common.{◌≡◌}
use Rattle.dep_solver.specs.declared.roots.Pin.{Pin}
use Rattle.dep_solver.proofs.EachLemmas.{EachBefore}
use Rattle.dep_solver.proofs.candidates.are_pins_met.Given as goal

abbrev pub invariant-loop-pin : goal.invariant-loop-pin
invariant-loop-pin l = EachBefore (λ (pin : Pin). pin.name ≡ l.name → l.version ≡ pin.version) l.pins l.pin-index
