-- The lines so far are those before, and then those of the first of these.
use Rattle.std.proofs.Common.{◌≡◌, ◌++◌, take}
use Rattle.std.specs.List.{flat_map}
use Rattle.policy_locks.specs.Digests as spec
use Rattle.policy_locks.proofs.digests.push_lists.Given as goal

abbrev pub invariant-loop-named : goal.invariant-loop-named
invariant-loop-named l = l.lines ≡ l.initial.lines ++ flat_map spec.named_lines (take l.named-index l.lists)
