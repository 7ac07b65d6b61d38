-- What is made so far, and then that of those that are left.
use Rattle.std.proofs.Common.{◌≡◌, ◌++◌, map, drop, option_map}
use Rattle.doc_tree.specs.Text.{text_of}
use Rattle.doc_tree.specs.Tree.{doc_of}
use Rattle.search_query.specs.Partial as spec
use Rattle.search_query.proofs.paths.texts_of.Given as goal

abbrev pub invariant-loop-tree : goal.invariant-loop-tree
invariant-loop-tree l = spec.each_of text_of l.trees ≡ option_map (λ later. l.texts ++ later) (spec.each_of text_of (map doc_of (drop l.tree-index l.tree-items)))
