-- The keys so far, and those that are left.
use Rattle.std.proofs.Common.{◌≡◌, ◌++◌, map, drop}
use Rattle.doc_tree.specs.Doc.{words}
use Rattle.attr_merge.proofs.lines.keys_of.Given as goal

abbrev pub invariant-loop-key : goal.invariant-loop-key
invariant-loop-key l = l.trees ++ map words (drop l.key-index l.path) ≡ map words l.path
