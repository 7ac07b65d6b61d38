use Rattle.membership.specs.Rooms.{groups_seen}
use Rattle.membership.proofs.CopyingLemmas.{Copying}
use Rattle.membership.proofs.group_map.copy_items.Given as goal

abbrev pub invariant-loop-name : goal.invariant-loop-name
invariant-loop-name l = Copying l.fn.items.entries (groups_seen l.made.entries) l.name-iterator
