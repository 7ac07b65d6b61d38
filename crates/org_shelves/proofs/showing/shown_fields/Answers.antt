use Rattle.std.proofs.Common.{ℕ, List, arith, sym, subst}
use Rattle.std.specs.Map.{keys_of}
use Rattle.doc_tree.specs.Doc.{Doc}
use Rattle.doc_tree.specs.Valid.{InOrder}
use Rattle.org_shelves.proofs.ShowingLemmas.{InOrder-shown}
use Rattle.org_shelves.proofs.showing.shown_fields.Goals as goal

pub push-requires : goal.push-requires
push-requires c =
    let order = subst (λ (ps : List (List ℕ × Doc)). InOrder (keys_of ps)) (sym c.as_slice-field-items.ensures.value) c.as_slice-field-items.ensures.order in
    rw c.in_ok-copy.ensures (InOrder-shown c.args.front.now c.as_slice-field-items.result.now c.loop-field.field-index c.field-item.result c.loop-field.made (omega arith) c.field-item.is order c.loop-field.invariant)
