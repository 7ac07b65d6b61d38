use Rattle.std.proofs.Common.{◌≡◌, ◌++◌, map}
use Rattle.doc_tree.specs.Tree.{pair_of}
use Rattle.yaml_subset.proofs.pairs.map_from.Given as goal

-- the entries so far, and then the fields that are left, are all fields
abbrev pub invariant-loop-field : goal.invariant-loop-field
invariant-loop-field l = l.fn.fields ≡ l.map.entries ++ map pair_of l.field-iterator.rest.items
