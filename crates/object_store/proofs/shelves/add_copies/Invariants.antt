use Rattle.object_store.proofs.CopyingLemmas.{Copied}
use Rattle.object_store.proofs.shelves.add_copies.Given as goal

-- the entries so far, and those that are left
abbrev pub invariant-loop-name : goal.invariant-loop-name
invariant-loop-name l = Copied (λ object name. object) l.fn.shelf.entries l.made l.name-iterator
