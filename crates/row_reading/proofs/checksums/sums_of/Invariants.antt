-- The checksums so far are the texts so far.
use Rattle.row_reading.proofs.SumsLemmas.{SumsSoFar}
use Rattle.row_reading.proofs.checksums.sums_of.Given as goal

abbrev pub invariant-loop-text : goal.invariant-loop-text
invariant-loop-text l = SumsSoFar l.text-items l.text-index l.sums.items
