-- The names so far are the keys of the first fields.
use Rattle.std.proofs.Common.{◌≡◌, map, take}
use Rattle.std.specs.Map.{keys_of}
use Rattle.doc_tree.specs.Tree.{pair_of}
use Rattle.knife_errands.proofs.bodies.names_of.Given as goal

abbrev pub invariant-loop-field : goal.invariant-loop-field
invariant-loop-field l = l.names ≡ keys_of (map pair_of (take l.field-index l.field-items))
