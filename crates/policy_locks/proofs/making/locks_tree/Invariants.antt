-- With the locks that are left, what is made is what all of them give.
use Rattle.std.proofs.Common.{◌≡◌, [], map, drop}
use Rattle.cookbook_meta.specs.Stored.{with_pairs}
use Rattle.policy_locks.specs.Making.{lock_pair}
use Rattle.policy_locks.proofs.making.locks_tree.Given as goal

abbrev pub invariant-loop-lock : goal.invariant-loop-lock
invariant-loop-lock l = with_pairs (map lock_pair l.lock-items) [] ≡ with_pairs (map lock_pair (drop l.lock-index l.lock-items)) l.made
