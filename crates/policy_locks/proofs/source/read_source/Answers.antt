use Rattle.std.proofs.Common.{subst}
use Rattle.doc_tree.specs.Doc.{pairs_of}
use Rattle.doc_tree.specs.Tree.{doc_of}
use Rattle.doc_tree.specs.Valid.{IsDoc}
use Rattle.doc_tree.specs.declared.tree.Tree.{Tree}
use Rattle.policy_locks.proofs.SourceLemmas.{given_source}
use Rattle.policy_locks.proofs.source.read_source.Goals as goal

pub returns-in-Dict-clause-order : goal.returns-in-Dict-clause-order
returns-in-Dict-clause-order c =
    given_source (pairs_of c.in-Dict.body) c.source_in.result (subst (λ (t : Tree). IsDoc (doc_of t)) c.in-Dict.is c.known.ensures) c.source_in.ensures
