-- What came before is not too deep, so what is left decides.
use Rattle.std.proofs.Common.{◌≤◌, drop, max, map}
use Rattle.doc_tree.specs.Doc.{docs_depth, docs_of, pairs_depth, pairs_of}
use Rattle.doc_tree.specs.Tree.{doc_of, pair_of}
use Rattle.yaml_subset.proofs.document.+depth.Given as goal

abbrev pub invariant-has_deeper_tree-loop-tree : goal.invariant-has_deeper_tree-loop-tree
invariant-has_deeper_tree-loop-tree l =
    let all = docs_depth (docs_of l.trees) in
    let left = docs_depth (docs_of (map doc_of (drop l.tree-index l.tree-items))) in
    (all ≤ max l.limit left) × (left ≤ all)

abbrev pub invariant-has_deeper_field-loop-field : goal.invariant-has_deeper_field-loop-field
invariant-has_deeper_field-loop-field l =
    let all = pairs_depth (pairs_of l.fields) in
    let left = pairs_depth (pairs_of (map pair_of (drop l.field-index l.field-items))) in
    (all ≤ max l.limit left) × (left ≤ all)
