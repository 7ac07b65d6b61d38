use Rattle.std.proofs.Common.{Err, subst, sym, ap, ◌∙◌}
use Rattle.std.specs.FinMap as finite
use Rattle.doc_tree.specs.Tree.{pair_of}
use Rattle.host_tree.specs.Documents.{form_in, host_of, host_or}
use Rattle.host_tree.specs.Entries.{Entries, IsHost}
use Rattle.host_tree.specs.Image.{CanPut}
use Rattle.host_tree.proofs.ImageLemmas.{pair-at, form-fits, bad-here, bad-later, host_of-more}
use Rattle.host_tree.proofs.reading.read_fields.Goals as goal

pub put-requires-clause-fits : goal.put-requires-clause-fits
put-requires-clause-fits c =
    let p = pair_of c.field-item.result in
    let is = pair-at c.as_slice-field-items.result.now c.args.fields.now c.loop-field.field-index c.field-item.result c.loop-field.invariant.items c.loop-field-test.true c.field-item.is in
    let built = c.loop-field.invariant.built in
    let form = ap (λ (h : Entries). form_in h p) (sym built) ∙ sym c.in_ok-entry.ensures.form ∙ c.in-Some.is in
    subst (λ (h : Entries). CanPut h c.field-item.result.key c.in-Some.entry) (sym built)
    (form-fits c.args.fields.now c.loop-field.field-index p c.in-Some.entry c.loop-field.invariant.order is (subst IsHost built c.in_ok-entry.ensures.host) form)

pub returns-in-None-clause-reads : goal.returns-in-None-clause-reads
returns-in-None-clause-reads c =
    let p = pair_of c.field-item.result in
    let is = pair-at c.as_slice-field-items.result.now c.args.fields.now c.loop-field.field-index c.field-item.result c.loop-field.invariant.items c.loop-field-test.true c.field-item.is in
    let form = ap (λ (h : Entries). form_in h p) (sym c.loop-field.invariant.built) ∙ sym c.in_ok-entry.ensures.form ∙ c.in-None.is in
    ap (host_or (host_of c.args.fields.now)) (c.loop-field.invariant.left ∙ bad-here c.args.fields.now c.loop-field.field-index p c.loop-field.invariant.order is form)
    ∙ ap Err (sym c.in_ok-copy-in-None.ensures)

pub loop-field-preserved : goal.loop-field-preserved
loop-field-preserved c =
    let p = pair_of c.field-item.result in
    let is = pair-at c.as_slice-field-items.result.now c.args.fields.now c.loop-field.field-index c.field-item.result c.loop-field.invariant.items c.loop-field-test.true c.field-item.is in
    let built = c.loop-field.invariant.built in
    let form = ap (λ (h : Entries). form_in h p) (sym built) ∙ sym c.in_ok-entry.ensures.form ∙ c.in-Some.is in
    record {
      items = c.loop-field.invariant.items;
      order = c.loop-field.invariant.order;
      built = c.in_ok-put-in-Some.ensures.ok ∙ ap (λ (h : Entries). finite.insert h c.field-item.result.key c.in-Some.entry) built ∙ host_of-more c.args.fields.now c.loop-field.field-index p c.in-Some.entry c.loop-field.invariant.order is form;
      left = c.loop-field.invariant.left ∙ bad-later c.args.fields.now c.loop-field.field-index p c.in-Some.entry c.loop-field.invariant.order is form;
    }
