-- The trees so far are those of the checksums so far.
use Rattle.std.proofs.Common.{◌≡◌, map, take}
use Rattle.doc_tree.specs.Doc.{words}
use Rattle.row_reading.proofs.checksums.sums_tree.Given as goal

abbrev pub invariant-loop-sum : goal.invariant-loop-sum
invariant-loop-sum l = l.trees ≡ map words (take l.sum-index l.sum-items)
