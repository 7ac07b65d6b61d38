-- Where the key is new, the dict with it is in order.
use Rattle.doc_tree.specs.Tree.{doc_of}
use Rattle.doc_tree.proofs.Place.{InOrder-gap}
use Rattle.doc_tree.proofs.tree.Fields.put.Goals as goal

pub insert-requires-clause-order : goal.insert-requires-clause-order
insert-requires-clause-order c =
    InOrder-gap c.as_str.result.now c.args.key (doc_of c.args.tree) c.args.self.now c.in-Gap.index c.as_str.ensures.value (c.in-Gap.ensures.place.2 (doc_of c.args.tree)) c.place_of.ensures.order
