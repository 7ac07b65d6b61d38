-- The trees so far are those of the first texts.
use Rattle.std.proofs.Common.{◌≡◌, map, take}
use Rattle.doc_tree.specs.Doc.{words}
use Rattle.knife_errands.proofs.node_run_lists.trees_of.Given as goal

abbrev pub invariant-loop-text : goal.invariant-loop-text
invariant-loop-text l = l.trees ≡ map words (take l.text-index l.texts)
