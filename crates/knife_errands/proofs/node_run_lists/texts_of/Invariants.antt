-- The texts so far are those of the first items.
use Rattle.std.proofs.Common.{◌≡◌, take}
use Rattle.knife_errands.specs.RunLists as spec
use Rattle.knife_errands.proofs.node_run_lists.texts_of.Given as goal

abbrev pub invariant-loop-item : goal.invariant-loop-item
invariant-loop-item l = l.texts ≡ spec.texts_of (take l.item-index l.items)
