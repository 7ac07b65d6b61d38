-- Each assignment is written behind those before it.
use Rattle.std.proofs.Common.{◌∙◌, sym, subst, arith}
use Rattle.std.specs.Map.{keys_of}
use Rattle.doc_tree.specs.Doc.{words}
use Rattle.doc_tree.specs.Part.{with_pair}
use Rattle.doc_tree.specs.Text.{text_cmp}
use Rattle.doc_tree.specs.Valid.{InOrder}
use Rattle.org_shelves.specs.Rising.{keys_rise}
use Rattle.row_reading.proofs.AssignedLemmas.{written-more}
use Rattle.row_reading.proofs.assigned.policies_of.Goals as goal

pub loop-policy-preserved : goal.loop-policy-preserved
loop-policy-preserved c =
    let l = c.loop-policy in
    let order = subst (λ es. InOrder (keys_of es)) (sym c.entries-policy-items.ensures) (keys_rise text_cmp c.args.assigned.now) in
    let put = c.in_ok-put.ensures.ok ∙ (λ i. with_pair (c.in_ok-policy.ensures i) (words (c.in_ok-copy.ensures i)) l.fields) in
    written-more c.entries-policy-items.result.now l.policy-index c.loop-policy-item.result l.fields c.put.new.self order (omega arith) c.loop-policy-item.is l.invariant put
