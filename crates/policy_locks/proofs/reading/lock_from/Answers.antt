use Rattle.std.proofs.Common.{option_copied, subst}
use Rattle.doc_tree.specs.Doc.{pairs_of}
use Rattle.doc_tree.specs.Tree.{doc_of}
use Rattle.doc_tree.specs.Valid.{IsDoc}
use Rattle.doc_tree.specs.declared.tree.Tree.{Tree}
use Rattle.policy_locks.proofs.LockLemmas.{given_order}
use Rattle.policy_locks.proofs.reading.lock_from.Goals as goal

pub returns-in-Dict-clause-order : goal.returns-in-Dict-clause-order
returns-in-Dict-clause-order c =
    given_order (option_copied c.args.policy) (pairs_of c.in-Dict.body) c.lock_in.result (subst (λ (t : Tree). IsDoc (doc_of t)) c.in-Dict.is c.known.ensures) c.lock_in.ensures
