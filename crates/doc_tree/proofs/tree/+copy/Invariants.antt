-- The copies so far are the documents so far.
use Rattle.std.proofs.Common.{◌≡◌, take, map}
use Rattle.doc_tree.specs.Tree.{doc_of, pair_of}
use Rattle.doc_tree.proofs.tree.+copy.Given as goal

abbrev pub invariant-Trees::copy-loop-tree : goal.invariant-Trees::copy-loop-tree
invariant-Trees::copy-loop-tree l = map doc_of l.items.items ≡ map doc_of (take l.tree-index l.tree-items)

abbrev pub invariant-Fields::copy-loop-field : goal.invariant-Fields::copy-loop-field
invariant-Fields::copy-loop-field l = map pair_of l.entries.items ≡ map pair_of (take l.field-index l.field-items)
