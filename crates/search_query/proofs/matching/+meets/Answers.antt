use Rattle.std.proofs.Common.{arith}
use Rattle.search_query.proofs.MeetLemmas.{ands_in, item_in, what_in, item_meets}
use Rattle.search_query.proofs.matching.+meets.Goals as goal

pub meets-meets_all-requires : goal.meets-meets_all-requires
meets-meets_all-requires t c =
    let within = ands_in _ _ c.loop-all_of.all_of-index _ c.any_of-all_of-items.ensures (omega arith) c.all_of-item.is in
    (omega (arith, within), tt)

pub meets_all-meets_item-requires : goal.meets_all-meets_item-requires
meets_all-meets_item-requires t c =
    let within = item_in _ _ c.loop-item.item-index _ c.items-item-items.ensures (omega arith) c.item-item.is in
    (omega (arith, within), tt)

pub meets_item-meets_what-met-requires : goal.meets_item-meets_what-met-requires
meets_item-meets_what-met-requires t c =
    let same = what_in c.args.item.now c.parts-nots.result.0 c.parts-nots.result.1.now c.parts-nots.ensures in
    (omega (arith, same), tt)

pub meets_item-returns : goal.meets_item-returns
meets_item-returns t c = item_meets c.args.item.now c.parts-nots.result.0 c.parts-nots.result.1.now c.args.pairs.now c.meets_what-met.result c.turned.result c.parts-nots.ensures c.meets_what-met.ensures c.turned.ensures
