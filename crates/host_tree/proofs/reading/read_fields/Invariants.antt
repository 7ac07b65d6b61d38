-- The host so far is that of the pairs so far, and what is bad first among all is so among those that are left.
use Rattle.std.proofs.Common.{◌≡◌, map, take, drop}
use Rattle.std.specs.Map.{keys_of}
use Rattle.doc_tree.specs.Tree.{pair_of}
use Rattle.doc_tree.specs.Valid.{InOrder}
use Rattle.host_tree.specs.Documents.{host_of, first_bad}
use Rattle.host_tree.proofs.reading.read_fields.Given as goal

abbrev pub invariant-loop-field : goal.invariant-loop-field
invariant-loop-field l = record {
  items : map pair_of l.field-items ≡ l.fields;
  order : InOrder (keys_of l.fields);
  built : l.host ≡ host_of (take l.field-index l.fields);
  left : first_bad (host_of l.fields) l.fields ≡ first_bad (host_of l.fields) (drop l.field-index l.fields);
}
