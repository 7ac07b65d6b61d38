-- The lines so far are those before, and then those of the first of these.
use Rattle.std.proofs.Common.{◌≡◌, ◌++◌, map, take}
use Rattle.policy_locks.specs.Digests as spec
use Rattle.policy_locks.proofs.digests.push_cookbooks.Given as goal

abbrev pub invariant-loop-cookbook : goal.invariant-loop-cookbook
invariant-loop-cookbook l = l.lines ≡ l.initial.lines ++ map spec.cookbook_line (take l.cookbook-index l.cookbooks)
