-- What was written so far, and then what is left, is the whole.
use Rattle.std.proofs.Common.{◌≡◌, ◌+◌, ◌*◌, ◌++◌, drop, map, string_bytes}
use Rattle.doc_tree.specs.Doc.{depth, docs_depth, docs_of, pairs_depth, pairs_of}
use Rattle.doc_tree.specs.Tree.{doc_of, pair_of}
use Rattle.yaml_subset.specs.Written.{items_text, pairs_text}
use Rattle.yaml_subset.proofs.write.+write.Given as goal

abbrev pub invariant-write_items-loop-tree : goal.invariant-write_items-loop-tree
invariant-write_items-loop-tree l =
    string_bytes l.out ++ items_text l.front (docs_of (map doc_of (drop l.tree-index l.tree-items))) ≡ string_bytes l.initial.out ++ items_text l.front (docs_of l.trees)

abbrev pub invariant-write_pairs-loop-field : goal.invariant-write_pairs-loop-field
invariant-write_pairs-loop-field l =
    string_bytes l.out ++ pairs_text l.front (pairs_of (map pair_of (drop l.field-index l.field-items))) ≡ string_bytes l.initial.out ++ pairs_text l.front (pairs_of l.fields)

-- a part is less deep than what it is part of
abbrev pub decreases-write_block : goal.decreases-write_block
decreases-write_block l = 2 * depth (doc_of l.tree.now)

abbrev pub decreases-write_items : goal.decreases-write_items
decreases-write_items l = 2 * docs_depth (docs_of l.trees.now) + 1

abbrev pub decreases-write_pairs : goal.decreases-write_pairs
decreases-write_pairs l = 2 * pairs_depth (pairs_of l.fields.now) + 1
