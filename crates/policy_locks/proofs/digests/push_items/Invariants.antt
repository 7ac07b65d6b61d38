-- The lines so far are those before, and then those of the first of these.
use Rattle.std.proofs.Common.{◌≡◌, ◌++◌, map, take}
use Rattle.policy_locks.specs.Digests as spec
use Rattle.policy_locks.proofs.digests.push_items.Given as goal

abbrev pub invariant-loop-item : goal.invariant-loop-item
invariant-loop-item l = l.lines ≡ l.initial.lines ++ map spec.item_line (take l.item-index l.items)
