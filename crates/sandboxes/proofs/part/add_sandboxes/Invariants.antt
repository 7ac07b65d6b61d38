use Rattle.sandboxes.proofs.MapLemmas.{Copying}
use Rattle.sandboxes.proofs.part.add_sandboxes.Given as goal

abbrev pub invariant-loop-id : goal.invariant-loop-id
invariant-loop-id l = Copying l.fn.sandboxes.entries l.copy.entries l.id-iterator
