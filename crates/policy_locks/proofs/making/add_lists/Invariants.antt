-- The items so far are those before, and then those of the first lists.
use Rattle.std.proofs.Common.{◌≡◌, ◌++◌, take}
use Rattle.std.specs.List.{flat_map}
use Rattle.run_lists.specs.declared.by_name.NamedRunList.{NamedRunList}
use Rattle.policy_locks.proofs.making.add_lists.Given as goal

abbrev pub invariant-loop-named : goal.invariant-loop-named
invariant-loop-named l = l.items ≡ l.initial.items ++ flat_map (λ (named : NamedRunList). named.run_list) (take l.named-index l.lists)
