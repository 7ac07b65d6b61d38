-- All fields are as asked where those of the rows that are left are.
use Rattle.std.proofs.Common.{◌≡◌, map, drop}
use Rattle.doc_tree.specs.Doc.{pairs_of}
use Rattle.cookbook_meta.specs.Fields as spec
use Rattle.cookbook_meta.specs.Rows.{row_of}
use Rattle.cookbook_meta.proofs.fields.are_as_asked.Given as goal

abbrev pub invariant-loop-row : goal.invariant-loop-row
invariant-loop-row l =
    spec.are_as_asked (map row_of l.rows) (pairs_of l.fn.body)
    ≡ spec.are_as_asked (map row_of (drop l.row-index l.rows)) (pairs_of l.fn.body)
