-- With the lists that are left, what is made is what all the lists give.
use Rattle.std.proofs.Common.{◌≡◌, [], map, drop}
use Rattle.cookbook_meta.specs.Stored.{with_pairs}
use Rattle.run_lists.specs.Storing.{named_pair}
use Rattle.policy_locks.proofs.stored.named_tree.Given as goal

abbrev pub invariant-loop-named : goal.invariant-loop-named
invariant-loop-named l = with_pairs (map named_pair l.named-items) [] ≡ with_pairs (map named_pair (drop l.named-index l.named-items)) l.made
