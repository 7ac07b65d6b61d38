use Rattle.std.proofs.Common.{Vec, Global, subst, sym}
use Rattle.dep_solver.specs.declared.conflicts.Term.{Term}
use Rattle.dep_solver.specs.declared.learning.Learner.{Learner}
use Rattle.dep_solver.specs.Conflicts.{Follows, KeepsConflicts}
use Rattle.dep_solver.proofs.ConflictLemmas.{if_some}
use Rattle.dep_solver.proofs.learning.Learner.refuted.Goals.{in-Some+in_ok-learned+in-Some-learned+else-is_empty+in_ok-learn, in_default+in_default-refusing+in_ok-choose_next+else-not-branch}
use Rattle.dep_solver.proofs.learning.Learner.refuted.Goals as goal

pub returns-then-is_empty-clause-found : goal.returns-then-is_empty-clause-found
returns-then-is_empty-clause-found c = λ universe rules roots keeps.
    if_some (λ (terms : Vec Term Global). Follows c.loop.self.store terms.items) c.in_ok-learned.learned c.in-Some-learned.terms c.in-Some-learned.is c.in_ok-learned.ensures universe rules roots (c.loop.invariant universe rules roots keeps)

pub returns-in-Some-refusing-clause-found : goal.returns-in-Some-refusing-clause-found
returns-in-Some-refusing-clause-found c = λ universe rules roots keeps.
    if_some (λ (terms : Vec Term Global). Follows c.loop.self.store terms.items) c.in_ok-learned-2.learned c.in-Some-learned-2.terms c.in-Some-learned-2.is c.in_ok-learned-2.ensures universe rules roots (c.loop.invariant universe rules roots keeps)

pub loop-preserved : goal.loop-preserved
loop-preserved c = λ universe rules roots keeps. elim c.match-branch-3.branch [
  | in-Some+in_ok-learned+in-Some-learned+else-is_empty+in_ok-learn w ↦
      subst (λ (l : Learner). KeepsConflicts universe rules roots l.store) (sym w.self-is) (w.in_ok-learn.ensures universe rules roots (c.loop.invariant universe rules roots keeps))
  | in_default+in_default-refusing+in_ok-choose_next+else-not-branch w ↦
      subst (λ (l : Learner). KeepsConflicts universe rules roots l.store) (sym w.self-is) (c.loop.invariant universe rules roots keeps)
]
