-- With the versions that are left, what is made is what all of them give.
use Rattle.std.proofs.Common.{◌≡◌, [], map, drop}
use Rattle.cookbook_meta.specs.Stored.{with_pairs}
use Rattle.policy_locks.specs.Making.{dependency_of}
use Rattle.policy_locks.proofs.depends.dependencies_tree.Given as goal

abbrev pub invariant-loop-pin : goal.invariant-loop-pin
invariant-loop-pin l = with_pairs (map (dependency_of l.universe) l.pin-items) [] ≡ with_pairs (map (dependency_of l.universe) (drop l.pin-index l.pin-items)) l.made
