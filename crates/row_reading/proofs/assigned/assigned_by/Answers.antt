-- Each field assigns its key the text that stands at it.
use Rattle.std.proofs.Common.{◌≡◌, Some, arith}
use Rattle.doc_tree.specs.Text.{text_of}
use Rattle.doc_tree.specs.Tree.{doc_of}
use Rattle.row_reading.proofs.AssignedLemmas.{assigned-more}
use Rattle.row_reading.proofs.assigned.assigned_by.Goals as goal

pub loop-field-preserved : goal.loop-field-preserved
loop-field-preserved c =
    let f = c.field-item.result in
    let said : text_of (doc_of f.tree) ≡ Some c.in-Some.revision.now = grind arith in
    assigned-more c.as_slice-field-items.result.now c.loop-field.field-index f c.in-Some.revision.now c.loop-field.assigned c.in_ok-assigned-in-Some.assigned c.loop-field.invariant (omega arith) c.field-item.is said c.in_ok-assigned-in-Some.ensures
