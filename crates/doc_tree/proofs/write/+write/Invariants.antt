-- What was written, and then the tokens of what is left, are the tokens of all.
use Rattle.std.proofs.Common.{◌≡◌, ◌++◌, drop, map}
use Rattle.doc_tree.specs.Doc.{docs_of, pairs_of}
use Rattle.doc_tree.specs.Tokens.{docs_tokens, pairs_tokens}
use Rattle.doc_tree.specs.Tree.{doc_of, pair_of}
use Rattle.doc_tree.proofs.write.+write.Given as goal

abbrev pub invariant-write_trees-loop-tree : goal.invariant-write_trees-loop-tree
invariant-write_trees-loop-tree l = record {
  tokens : l.out.tokens ++ docs_tokens (docs_of (map doc_of (drop l.tree-index l.tree-items))) ≡ l.initial.out.tokens ++ docs_tokens (docs_of l.trees);
  before : l.out.before ≡ l.initial.out.before;
}

abbrev pub invariant-write_fields-loop-field : goal.invariant-write_fields-loop-field
invariant-write_fields-loop-field l = record {
  tokens : l.out.tokens ++ pairs_tokens (pairs_of (map pair_of (drop l.field-index l.field-items))) ≡ l.initial.out.tokens ++ pairs_tokens (pairs_of l.fields);
  before : l.out.before ≡ l.initial.out.before;
}
