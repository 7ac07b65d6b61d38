use Rattle.std.proofs.Common.{◌≡◌, ◌++◌, drop, map}
use Rattle.doc_tree.specs.Doc.{pairs_of}
use Rattle.doc_tree.specs.Tree.{pair_of}
use Rattle.search_query.specs.Pairs.{node_fields}
use Rattle.search_query.proofs.flatten.node_fields.Given as goal

-- what was found so far, and then what is left, is all
abbrev pub invariant-loop-field : goal.invariant-loop-field
invariant-loop-field l = l.found ++ node_fields (pairs_of (map pair_of (drop l.field-index l.field-items))) ≡ l.fn.found ++ node_fields (pairs_of l.fields)
