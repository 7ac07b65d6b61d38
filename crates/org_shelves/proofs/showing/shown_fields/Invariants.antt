-- All fields shown are those so far and then those of the fields that are left.
use Rattle.std.proofs.Common.{◌≡◌, ◌++◌, map, drop}
use Rattle.doc_tree.specs.Tree.{pair_of}
use Rattle.org_shelves.specs.Showing as spec
use Rattle.org_shelves.proofs.showing.shown_fields.Given as goal

abbrev pub invariant-loop-field : goal.invariant-loop-field
invariant-loop-field l = map (spec.shown_pair l.front) (map pair_of l.field-items) ≡ l.made ++ map (spec.shown_pair l.front) (map pair_of (drop l.field-index l.field-items))
