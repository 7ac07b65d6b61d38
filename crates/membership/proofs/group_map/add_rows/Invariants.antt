use Rattle.std.proofs.Common.{◌≡◌, drop}
use Rattle.membership.specs.Rooms.{groups_seen}
use Rattle.membership.specs.Lists.{with_rows}
use Rattle.membership.proofs.group_map.add_rows.Given as goal

-- the groups so far, and then those of the rows that are left
abbrev pub invariant-loop-row : goal.invariant-loop-row
invariant-loop-row l = with_rows (groups_seen l.items.entries) (drop l.row-index l.rows) ≡ with_rows (groups_seen l.fn.items.entries) l.rows
