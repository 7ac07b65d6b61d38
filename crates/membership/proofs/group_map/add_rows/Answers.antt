use Rattle.std.proofs.Common.{refl}
use Rattle.membership.specs.Rooms.{groups_seen}
use Rattle.membership.specs.Lists.{members_in, with_rows}
use Rattle.membership.proofs.RoomLemmas.{rows_more}
use Rattle.membership.proofs.group_map.add_rows.Goals as goal

pub loop-row-preserved : goal.loop-row-preserved
loop-row-preserved c =
    rows_more c.args.rows.now c.loop-row.row-index c.row-item.result c.row-item.result.name (members_in c.row-item.result) (groups_seen c.loop-row.items.entries) _ (with_rows (groups_seen c.args.items.now.entries) c.args.rows.now)
    c.loop-row-test.true c.row-item.is refl refl c.in_ok-add_row.ensures c.loop-row.invariant
