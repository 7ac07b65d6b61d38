use Rattle.std.proofs.Common.{◌≡◌, ◌++◌, map}
use Rattle.doc_tree.specs.Tree.{pair_of}
use Rattle.yaml_subset.proofs.falling.fields_of.Given as goal

-- the fields so far, and then those that are left, are all fields
abbrev pub invariant-loop-field : goal.invariant-loop-field
invariant-loop-field l = map pair_of l.fn.entries.items ≡ l.fields ++ map pair_of l.field-iterator.rest.items
