-- The items so far are those before, and then the first of the others.
use Rattle.std.proofs.Common.{◌≡◌, ◌++◌, take}
use Rattle.policy_locks.proofs.making.add_items.Given as goal

abbrev pub invariant-loop-item : goal.invariant-loop-item
invariant-loop-item l = l.items ≡ l.initial.items ++ take l.item-index l.more
