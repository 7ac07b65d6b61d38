use Rattle.object_store.proofs.ListsLemmas.{Copied}
use Rattle.object_store.proofs.lists.add_copies.Given as goal

abbrev pub invariant-loop-key : goal.invariant-loop-key
invariant-loop-key l = Copied l.fn.bases l.fn.items.entries l.made.lists l.key-iterator
