use Rattle.sandboxes.proofs.MapLemmas.{Copying}
use Rattle.sandboxes.proofs.part.add_files.Given as goal

abbrev pub invariant-loop-sum : goal.invariant-loop-sum
invariant-loop-sum l = Copying l.fn.files.entries l.copy.entries l.sum-iterator
