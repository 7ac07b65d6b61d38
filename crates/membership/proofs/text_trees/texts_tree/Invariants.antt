use Rattle.std.proofs.Common.{◌≡◌, map, take}
use Rattle.doc_tree.specs.Doc.{words}
use Rattle.membership.proofs.text_trees.texts_tree.Given as goal

-- the texts so far
abbrev pub invariant-loop-text : goal.invariant-loop-text
invariant-loop-text l = l.trees ≡ map words (take l.text-index l.texts)
