use Rattle.std.proofs.Common.{◌≡◌, ◌++◌, ◌*◌, ◌+◌, drop, map}
use Rattle.doc_tree.specs.Doc.{docs_of, pairs_of, depth, docs_depth, pairs_depth}
use Rattle.doc_tree.specs.Tree.{doc_of, pair_of}
use Rattle.search_query.specs.Pairs.{pairs_of_each, pairs_below}
use Rattle.search_query.proofs.flatten.+flat.Given as goal

abbrev pub decreases-part : goal.decreases-part
decreases-part l = 2 * depth (doc_of l.tree.now)

abbrev pub decreases-each : goal.decreases-each
decreases-each l = 2 * docs_depth (docs_of l.trees.now) + 1

abbrev pub decreases-below : goal.decreases-below
decreases-below l = 2 * pairs_depth (pairs_of l.fields.now) + 1

-- what was found so far, and then what is left, is all
abbrev pub invariant-each-loop-tree : goal.invariant-each-loop-tree
invariant-each-loop-tree l = l.found ++ pairs_of_each l.way (docs_of (map doc_of (drop l.tree-index l.tree-items))) ≡ l.fn.found ++ pairs_of_each l.way (docs_of l.trees)

abbrev pub invariant-below-loop-field : goal.invariant-below-loop-field
invariant-below-loop-field l = l.found ++ pairs_below l.way (pairs_of (map pair_of (drop l.field-index l.field-items))) ≡ l.fn.found ++ pairs_below l.way (pairs_of l.fields)
