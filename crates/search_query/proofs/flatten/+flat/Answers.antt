use Rattle.std.proofs.Common.{arith}
use Rattle.doc_tree.proofs.Within.{doc_within, pair_within}
use Rattle.search_query.proofs.flatten.+flat.Goals as goal

pub each-part-requires : goal.each-part-requires
each-part-requires t c =
    let within = doc_within _ _ c.loop-tree.tree-index _ c.as_slice-tree-items.ensures.value (omega arith) c.tree-item.is in
    (omega (arith, within), tt)

pub below-part-requires : goal.below-part-requires
below-part-requires t c =
    let within = pair_within _ _ c.loop-field.field-index _ c.as_slice-field-items.ensures.value (omega arith) c.field-item.is in
    (omega (arith, within), tt)
