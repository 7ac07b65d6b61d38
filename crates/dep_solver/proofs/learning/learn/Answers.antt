use Rattle.std.proofs.Common.{subst, sym}
use Rattle.dep_solver.specs.declared.store.Store.{Store}
use Rattle.dep_solver.specs.Conflicts.{KeepsConflicts}
use Rattle.dep_solver.proofs.learning.learn.Goals.{then-len-ge-MOST+in_ok-drop_longest+in_ok-list_again+in_ok-look_at_all, else-len-ge-MOST}
use Rattle.dep_solver.proofs.learning.learn.Goals as goal

pub returns : goal.returns
returns c = λ universe rules roots keeps.
    c.in_ok-learn.ensures universe rules roots
    (elim c.if-len-ge-MOST.branch [
      | then-len-ge-MOST+in_ok-drop_longest+in_ok-list_again+in_ok-look_at_all w ↦ subst (λ (s : Store). KeepsConflicts universe rules roots s) (sym w.store-is) (w.in_ok-drop_longest.ensures universe rules roots keeps)
      | else-len-ge-MOST w ↦ subst (λ (s : Store). KeepsConflicts universe rules roots s) (sym w.store-is) keeps
    ])
    (c.requires universe rules roots keeps)
