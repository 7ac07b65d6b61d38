-- The keys of a Dict are in order, and each list is named by its key.
use Rattle.doc_tree.specs.Tree.{doc_of}
use Rattle.run_lists.proofs.OrderLemmas.{read_in_order}
use Rattle.run_lists.proofs.by_name.named_run_lists.Goals as goal

pub returns-clause-order : goal.returns-clause-order
returns-clause-order c = read_in_order c.args.allowed (doc_of c.args.tree.now) c.lists_in.result c.known.ensures c.lists_in.ensures
