use Rattle.dep_solver.proofs.ConflictLemmas.{learned_more}
use Rattle.dep_solver.proofs.store.Store.learn.Goals as goal

pub returns : goal.returns
returns c = λ universe rules roots keeps is.
    (keeps.0, learned_more universe rules roots c.args.self.now.learned.items c.push.new.self.items (record { terms = c.args.terms }) keeps.1 is c.in_ok-push.ensures.items)
