use Rattle.std.proofs.Common.{◌≡◌, ℕ, List, false, map, arith, sym, ap, subst, ◌∙◌}
use Rattle.std.specs.Map.{keys_of}
use Rattle.doc_tree.specs.Doc.{Doc}
use Rattle.doc_tree.specs.Valid.{InOrder}
use Rattle.cookbook_meta.specs.Stored.{is_field}
use Rattle.cookbook_meta.proofs.KeyLemmas.{InOrder-beside}
use Rattle.cookbook_meta.proofs.stored.beside.Goals as goal

pub push_copy-requires : goal.push_copy-requires
push_copy-requires c =
    let listed = is_field (map (λ s. s.now) c.args.keys.now) in
    let order = subst (λ (ps : List (List ℕ × Doc)). InOrder (keys_of ps)) (sym c.as_slice-field-items.ensures.value) c.as_slice-field-items.ensures.order in
    let unlisted : listed c.field-item.result.key ≡ false = ap listed (sym c.as_str.ensures.value) ∙ sym c.is_field.ensures ∙ c.if-not-is_field.true in
    InOrder-beside listed c.as_slice-field-items.result.now c.loop-field.field-index c.field-item.result c.loop-field.made (omega arith) c.field-item.is unlisted order c.loop-field.invariant
