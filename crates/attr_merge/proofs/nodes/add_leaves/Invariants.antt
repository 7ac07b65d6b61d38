use Rattle.std.proofs.Common.{◌≡◌, ◌++◌}
use Rattle.std.specs.Vec.Iter.{into_iter_items}
use Rattle.attr_merge.specs.Nodes.{leaves_of, below_key}
use Rattle.attr_merge.proofs.nodes.add_leaves.Given as goal

-- the leaves so far, and those that are left
abbrev pub invariant-loop-leaf : goal.invariant-loop-leaf
invariant-loop-leaf l = leaves_of l.leaves.items ++ below_key l.key (leaves_of (into_iter_items l.leaf-iterator)) ≡ leaves_of l.initial.leaves.items ++ below_key l.key (leaves_of l.fn.below.items)
