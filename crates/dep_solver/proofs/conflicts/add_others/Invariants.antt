-- The terms say what they said, and what each of the others before the index says.
use Rattle.std.proofs.Common.{◌≡◌}
use Rattle.dep_solver.specs.declared.conflicts.Term.{Term}
use Rattle.dep_solver.specs.Conflicts.{HasAll, HasTerm, Values}
use Rattle.dep_solver.proofs.EachLemmas.{EachBefore}
use Rattle.dep_solver.proofs.conflicts.add_others.Given as goal

abbrev pub invariant-loop-other : goal.invariant-loop-other
invariant-loop-other l =
    (taken : Values) → HasAll taken l.terms.items → HasAll taken l.fn.terms.items × EachBefore (λ (t : Term). ¬ (t.cookbook ≡ l.cookbook) → HasTerm taken t) l.others l.other-index
