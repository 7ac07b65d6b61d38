-- All fields are constraints where those that are left are.
use Rattle.std.proofs.Common.{◌≡◌, map, drop}
use Rattle.doc_tree.specs.Doc.{pairs_of}
use Rattle.doc_tree.specs.Tree.{pair_of}
use Rattle.object_forms.specs.Forms as spec
use Rattle.object_forms.proofs.forms.are_constraints.Given as goal

abbrev pub invariant-loop-field : goal.invariant-loop-field
invariant-loop-field l =
    spec.are_constraints (pairs_of (map pair_of l.field-items))
    ≡ spec.are_constraints (pairs_of (map pair_of (drop l.field-index l.field-items)))
