-- Each term on the cookbook before the index has the values.
use Rattle.std.proofs.Common.{◌≡◌, ℕ, ◌<◌}
use Rattle.std.specs.Int.{bit_at}
use Rattle.dep_solver.specs.declared.conflicts.Term.{Term}
use Rattle.dep_solver.proofs.EachLemmas.{EachBefore}
use Rattle.dep_solver.proofs.conflicts.values_of.Given as goal

abbrev pub invariant-loop-term : goal.invariant-loop-term
invariant-loop-term l =
    (value : ℕ) → value < 64 → bit_at l.values value ≡ 1 → EachBefore (λ (t : Term). t.cookbook ≡ l.cookbook → bit_at t.values value ≡ 1) l.terms l.term-index
