-- What is wanted so far, and then that of the fields that are left.
use Rattle.std.proofs.Common.{◌≡◌, ◌++◌, map, drop, Ok}
use Rattle.doc_tree.specs.Tree.{pair_of}
use Rattle.search_query.specs.Partial as spec
use Rattle.search_query.proofs.partial.each_wanted.Given as goal

abbrev pub invariant-loop-field : goal.invariant-loop-field
invariant-loop-field l =
    spec.each_or_fault spec.wanted_of (map pair_of l.fields) ≡ spec.then_do (spec.each_or_fault spec.wanted_of (map pair_of (drop l.field-index l.fields))) (λ later. Ok (l.wanted ++ later))
