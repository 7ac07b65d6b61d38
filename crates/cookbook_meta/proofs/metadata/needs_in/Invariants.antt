-- All dependencies are those so far and then those of the fields that are left.
use Rattle.std.proofs.Common.{◌≡◌, ◌++◌, map, drop, Ok}
use Rattle.doc_tree.specs.Doc.{pairs_of}
use Rattle.doc_tree.specs.Tree.{pair_of}
use Rattle.cookbook_meta.specs.Faults.{then_do}
use Rattle.cookbook_meta.specs.Metadata as spec
use Rattle.cookbook_meta.proofs.metadata.needs_in.Given as goal

abbrev pub invariant-loop-field : goal.invariant-loop-field
invariant-loop-field l =
    spec.needs_in (pairs_of (map pair_of l.field-items))
    ≡ then_do (spec.needs_in (pairs_of (map pair_of (drop l.field-index l.field-items)))) (λ later. Ok (l.needs ++ later))
