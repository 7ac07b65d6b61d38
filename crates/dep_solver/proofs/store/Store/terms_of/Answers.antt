use Rattle.std.proofs.Common.{List, Bor, subst}
use Rattle.dep_solver.specs.declared.conflicts.Conflict.{Conflict}
use Rattle.dep_solver.specs.declared.conflicts.Term.{Term}
use Rattle.dep_solver.specs.Conflicts.{Follows, IsAmong}
use Rattle.dep_solver.proofs.ConflictLemmas.{follows_known, follows_learned, if_some_more}
use Rattle.dep_solver.proofs.store.Store.terms_of.Goals as goal

pub returns-in-Known : goal.returns-in-Known
returns-in-Known c =
    if_some_more (λ (terms : Bor (List Term)). IsAmong c.as_slice.result.now terms.now) (λ (terms : Bor (List Term)). Follows c.args.self.now terms.now) c.terms_at.result
    (λ terms among. follows_known c.args.self.now terms.now (subst (λ (cs : List Conflict). IsAmong cs terms.now) c.as_slice.ensures.value among)) c.terms_at.ensures

pub returns-in-Learned : goal.returns-in-Learned
returns-in-Learned c =
    if_some_more (λ (terms : Bor (List Term)). IsAmong c.as_slice-in-Learned.result.now terms.now) (λ (terms : Bor (List Term)). Follows c.args.self.now terms.now) c.terms_at-in-Learned.result
    (λ terms among. follows_learned c.args.self.now terms.now (subst (λ (cs : List Conflict). IsAmong cs terms.now) c.as_slice-in-Learned.ensures.value among)) c.terms_at-in-Learned.ensures
