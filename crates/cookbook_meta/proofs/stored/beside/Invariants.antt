-- What is kept of all fields is what is made and then what is kept of the fields that are left.
use Rattle.std.proofs.Common.{◌≡◌, ◌++◌, map, drop}
use Rattle.doc_tree.specs.Tree.{pair_of}
use Rattle.cookbook_meta.specs.Stored as spec
use Rattle.cookbook_meta.proofs.stored.beside.Given as goal

abbrev pub invariant-loop-field : goal.invariant-loop-field
invariant-loop-field l =
    let listed = spec.is_field (map (λ s. s.now) l.keys) in
    spec.beside listed (map pair_of l.field-items) ≡ l.made ++ spec.beside listed (map pair_of (drop l.field-index l.field-items))
