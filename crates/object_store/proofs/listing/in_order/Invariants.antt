use Rattle.std.proofs.Common.{◌≡◌, ◌++◌}
use Rattle.object_store.proofs.listing.in_order.Given as goal

-- the names so far, and those that are left
abbrev pub invariant-loop-name : goal.invariant-loop-name
invariant-loop-name l = l.list.items ++ l.name-iterator ≡ l.fn.names.keys
