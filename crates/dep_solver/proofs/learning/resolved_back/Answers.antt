use Rattle.std.proofs.Common.{List, subst}
use Rattle.dep_solver.specs.declared.conflicts.Term.{Term}
use Rattle.dep_solver.specs.Conflicts.{Resolves}
use Rattle.dep_solver.proofs.ConflictLemmas.{follows_resolved}
use Rattle.dep_solver.proofs.learning.resolved_back.Goals as goal

pub loop-preserved : goal.loop-preserved
loop-preserved c =
    follows_resolved c.args.store.now c.loop.resolved_terms.items c.in-Some-terms_of.others.now c.in_ok-resolved_terms.resolved_terms.items
    (subst (λ (ts : List Term). Resolves ts c.in-Some-terms_of.others.now c.in_ok-resolved_terms.resolved_terms.items) c.as_slice-in-loop.ensures.value c.in_ok-resolved_terms.ensures)
    c.loop.invariant c.in-Some-terms_of.ensures
