-- The pairs that were made are those of the definition, in order.
use Rattle.doc_tree.specs.Tree.{doc_of}
use Rattle.search_query.specs.Pairs.{pairs_of}
use Rattle.org_machine.proofs.PairOrderLemmas.{made_in_order}
use Rattle.org_machine.proofs.finding.pairs_in_order.Goals as goal

pub returns : goal.returns
returns c = made_in_order c.in_ok-made.made (pairs_of c.args.kind (doc_of c.args.object.now)) c.in_ok-made.ensures.rising c.in_ok-made.ensures.members
