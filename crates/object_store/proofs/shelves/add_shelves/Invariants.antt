use Rattle.object_store.specs.Kept.{object_on}
use Rattle.object_store.proofs.CopyingLemmas.{Copied}
use Rattle.object_store.proofs.shelves.add_shelves.Given as goal

-- the shelves so far, and those that are left
abbrev pub invariant-loop-word : goal.invariant-loop-word
invariant-loop-word l = Copied object_on l.fn.shelves.entries l.made l.word-iterator
