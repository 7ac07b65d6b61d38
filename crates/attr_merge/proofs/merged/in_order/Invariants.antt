use Rattle.std.proofs.Common.{◌≡◌, List, ℕ, ◌++◌, vec_len}
use Rattle.attr_merge.specs.Merged.{origin_at}
use Rattle.attr_merge.specs.Nodes.{entries_of, leaves_of}
use Rattle.attr_merge.proofs.merged.in_order.Given as goal

-- the leaves that are left count before those in the map
abbrev pub invariant-loop-leaf : goal.invariant-loop-leaf
invariant-loop-leaf l = (path : List (List ℕ)) → origin_at path (leaves_of l.left.items ++ entries_of l.found.entries) ≡ origin_at path (leaves_of l.fn.leaves.items)

abbrev pub decreases-loop-leaf : goal.decreases-loop-leaf
decreases-loop-leaf l = vec_len l.left
