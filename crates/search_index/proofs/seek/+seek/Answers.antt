use Rattle.std.proofs.Common.{arith}
use Rattle.search_query.proofs.MeetLemmas.{ands_in, item_in, what_in}
use Rattle.search_index.proofs.SeekLemmas.{all_ends, all_more, any_ends, any_more, one_is}
use Rattle.search_index.proofs.seek.+seek.Goals as goal

pub any-all-requires : goal.any-all-requires
any-all-requires t c =
    let within = ands_in _ _ c.loop-all_of.all_of-index _ c.any_of-all_of-items.ensures (omega arith) c.all_of-item.is in
    (omega (arith, within), tt)

pub all-one-requires : goal.all-one-requires
all-one-requires t c =
    let within = item_in _ _ c.loop-item.item-index _ c.items-items.ensures (omega arith) c.item-item.is in
    (omega (arith, within), tt)

pub one-plain-requires : goal.one-plain-requires
one-plain-requires t c =
    let same = what_in c.args.item.now c.parts-nots.result.0 c.parts-nots.result.1.now c.parts-nots.ensures in
    (omega (arith, same), tt)

pub one-returns : goal.one-returns
one-returns t c = one_is c.args.terms.now c.args.postings.now c.args.scope c.args.among.now c.args.item.now c.parts-nots.result.0 c.parts-nots.result.1.now _ _ c.parts-nots.ensures c.in_ok-found.ensures c.turned.ensures

pub any-loop-all_of-preserved : goal.any-loop-all_of-preserved
any-loop-all_of-preserved t c = any_more c.args.terms.now c.args.postings.now c.args.scope c.args.among.now c.args.query.now c.any_of-all_of-items.result.now c.loop-all_of.all_of-index c.all_of-item.result c.loop-all_of.missing c.in_ok-part.part c.turned.result c.in_ok-missing.missing
    c.loop-all_of-test.true c.all_of-item.is c.loop-all_of.invariant c.in_ok-part.ensures c.turned.ensures c.in_ok-missing.ensures

pub any-returns : goal.any-returns
any-returns t c = any_ends c.args.terms.now c.args.postings.now c.args.scope c.args.among.now c.args.query.now c.any_of-all_of-items.result.now c.loop-all_of.all_of-index c.loop-all_of.missing c.turned-2.result c.loop-all_of-test.false c.loop-all_of.invariant c.turned-2.ensures

pub all-loop-item-preserved : goal.all-loop-item-preserved
all-loop-item-preserved t c = all_more c.args.terms.now c.args.postings.now c.args.scope c.args.among.now c.args.all_of.now c.items-items.result.now c.loop-item.item-index c.item-item.result c.loop-item.found c.in_ok-part.part c.in_ok-found-2.found
    c.loop-item-test.true c.item-item.is c.loop-item.invariant c.in_ok-part.ensures c.in_ok-found-2.ensures

pub all-returns : goal.all-returns
all-returns t c = all_ends c.args.terms.now c.args.postings.now c.args.scope c.args.among.now c.args.all_of.now c.items-items.result.now c.loop-item.item-index c.loop-item.found c.loop-item-test.false c.loop-item.invariant
