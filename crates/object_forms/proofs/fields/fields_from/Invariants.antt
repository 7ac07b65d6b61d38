-- The fields of all rows are those of the rows that are left, put beside what is made.
use Rattle.std.proofs.Common.{◌≡◌, map, drop}
use Rattle.doc_tree.specs.Doc.{pairs_of}
use Rattle.object_forms.specs.Fields.{fields_of}
use Rattle.object_forms.specs.Rows.{row_of}
use Rattle.object_forms.proofs.fields.fields_from.Given as goal

abbrev pub invariant-loop-row : goal.invariant-loop-row
invariant-loop-row l =
    fields_of (map row_of l.rows) (pairs_of l.fn.body) l.fn.start
    ≡ fields_of (map row_of (drop l.row-index l.rows)) (pairs_of l.fn.body) l.made
