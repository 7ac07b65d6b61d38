use Rattle.std.proofs.Common.{Contains, List, subst}
use Rattle.dep_solver.specs.declared.conflicts.Conflict.{Conflict}
use Rattle.dep_solver.proofs.ConflictLemmas.{kept_of}
use Rattle.dep_solver.proofs.store.Store.drop_longest.Goals as goal

pub returns : goal.returns
returns c = λ universe rules roots keeps. (
  keeps.0,
  λ conflict h. keeps.1 conflict (kept_of c.retain.ensures.filtered.0 c.args.self.now.learned.items conflict (subst (λ (cs : List Conflict). Contains cs conflict) c.retain.ensures.filtered.4 h)),
)
