use Rattle.std.proofs.Common.{List, arith, sym, subst}
use Rattle.std.specs.Map.{keys_of}
use Rattle.doc_tree.specs.Valid.{InOrder}
use Rattle.search_query.specs.Partial.{Wanted}
use Rattle.search_query.proofs.PartialLemmas.{InOrder-shown}
use Rattle.search_query.proofs.partial.Partial.values.Goals as goal

pub push-requires : goal.push-requires
push-requires c =
    let order = subst (λ (ws : List Wanted). InOrder (keys_of ws)) (sym c.as_slice-key-items.ensures) c.self.invariant in
    rw c.in_ok-copy.ensures (InOrder-shown c.args.kind c.args.object.now c.as_slice-key-items.result.now c.loop-key.key-index c.loop-key-item.result c.loop-key.values (omega arith) c.loop-key-item.is order c.loop-key.invariant)
