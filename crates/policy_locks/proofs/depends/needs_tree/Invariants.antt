-- The trees so far are those of the first needs.
use Rattle.std.proofs.Common.{◌≡◌, map, take}
use Rattle.policy_locks.specs.Making.{need_doc}
use Rattle.policy_locks.proofs.depends.needs_tree.Given as goal

abbrev pub invariant-loop-need : goal.invariant-loop-need
invariant-loop-need l = l.trees ≡ map need_doc (take l.need-index l.needs)
