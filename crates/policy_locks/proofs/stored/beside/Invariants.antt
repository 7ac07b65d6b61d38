-- What is kept of all fields is what is made and then what is kept of the fields that are left.
use Rattle.std.proofs.Common.{◌≡◌, ◌++◌, map, drop}
use Rattle.doc_tree.specs.Tree.{pair_of}
use Rattle.cookbook_meta.specs.Stored.{beside}
use Rattle.policy_locks.specs.Stored.{is_settled}
use Rattle.policy_locks.proofs.stored.beside.Given as goal

abbrev pub invariant-loop-field : goal.invariant-loop-field
invariant-loop-field l = beside is_settled (map pair_of l.field-items) ≡ l.made ++ beside is_settled (map pair_of (drop l.field-index l.field-items))
