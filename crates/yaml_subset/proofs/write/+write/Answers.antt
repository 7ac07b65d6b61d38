-- An item and a field's tree are no deeper than the deepest.
use Rattle.std.proofs.Common.{arith}
use Rattle.yaml_subset.proofs.WrittenLemmas.{item_depth, field_depth}
use Rattle.yaml_subset.proofs.write.+write.Goals as goal

pub write_items-write_block-requires : goal.write_items-write_block-requires
write_items-write_block-requires t c =
    let deep = item_depth c.as_slice-tree-items.result.now c.loop-tree.tree-index c.tree-item.result _ c.loop-tree-test.true c.tree-item.is c.as_slice-tree-items.ensures.value in
    (omega (arith, deep), tt)

pub write_pairs-write_block-requires : goal.write_pairs-write_block-requires
write_pairs-write_block-requires t c =
    let deep = field_depth c.as_slice-field-items.result.now c.loop-field.field-index c.field-item.result _ c.loop-field-test.true c.field-item.is c.as_slice-field-items.ensures.value in
    (omega (arith, deep), tt)
