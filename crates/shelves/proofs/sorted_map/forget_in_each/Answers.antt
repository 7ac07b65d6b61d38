-- One more value has forgotten.
use Rattle.std.proofs.Common.{get_or, slice_set, ap, ◌∙◌, arith}
use Rattle.std.proofs.lemmas.List.Edits.{map_over_more}
use Rattle.shelves.proofs.sorted_map.forget_in_each.Goals as goal

pub loop-value-preserved : goal.loop-value-preserved
loop-value-preserved g c =
    let entries = c.loop-value.entries in
    let i = c.loop-value.value-index in
    let x = get_or entries i c.entries-item.result in
    ap (λ v. slice_set entries i (x.0, v)) c.forget.ensures
    ∙ map_over_more (λ (e : g.row.K.Denot × g.row.V.Denot). (e.0, g.V.Forget.without c.args.name.now e.1)) c.args.entries.now entries i x (omega (arith, c.loop-value.auto.entries)) c.loop-value.invariant
    (ap (λ d. get_or entries i d) c.entries-item.is)
