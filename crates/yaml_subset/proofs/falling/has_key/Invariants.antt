use Rattle.std.proofs.Common.{◌≡◌, false, is_some, map, take}
use Rattle.doc_tree.specs.Doc.{pairs_of}
use Rattle.doc_tree.specs.Part.{pair_at}
use Rattle.doc_tree.specs.Tree.{pair_of}
use Rattle.yaml_subset.proofs.falling.has_key.Given as goal

-- no field so far has the key
abbrev pub invariant-loop-field : goal.invariant-loop-field
invariant-loop-field l = is_some (pair_at l.key (pairs_of (map pair_of (take l.field-index l.fields)))) ≡ false
