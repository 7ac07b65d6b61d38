-- A shelf that gets more room stays empty.
use Rattle.std.proofs.Common.{◌≤◌, get_or, ap, ◌∙◌, arith}
use Rattle.shelves.specs.Rooms.{IsFresh}
use Rattle.shelves.specs.SortedMap.{Sorted}
use Rattle.shelves.proofs.ValueLemmas.{all_get, all_set, all_taken_more, all_taken, all_both}
use Rattle.shelves.proofs.shelves.reserve_in_pool.Goals as goal

pub returns-in_err-reserve-clause-pool : goal.returns-in_err-reserve-clause-pool
returns-in_err-reserve-clause-pool g c spare all =
    let before = c.loop-shelf.invariant.pool spare all in
    let at = c.loop-shelf.shelf-index in
    let old = all_get (IsFresh spare) c.loop-shelf.fresh at (get_or c.loop-shelf.fresh at c.shelf-item.result) (omega arith) (ap (λ d. get_or c.loop-shelf.fresh at d) c.shelf-item.is) before in
    let one : IsFresh spare c.reserve.new.self = record { empty = c.reserve.ensures.entries ∙ old.empty; room = omega (arith, old.room, c.reserve.ensures.spare) } in
    all_set (IsFresh spare) c.loop-shelf.fresh c.loop-shelf.shelf-index c.reserve.new.self one before

pub loop-shelf-preserved : goal.loop-shelf-preserved
loop-shelf-preserved g c = record {
  pool = λ spare all.
      let before = c.loop-shelf.invariant.pool spare all in
      let at = c.loop-shelf.shelf-index in
      let old = all_get (IsFresh spare) c.loop-shelf.fresh at (get_or c.loop-shelf.fresh at c.shelf-item.result) (omega arith) (ap (λ d. get_or c.loop-shelf.fresh at d) c.shelf-item.is) before in
      let one : IsFresh spare c.reserve.new.self = record { empty = c.reserve.ensures.entries ∙ old.empty; room = omega (arith, old.room, c.reserve.ensures.spare) } in
      all_set (IsFresh spare) c.loop-shelf.fresh c.loop-shelf.shelf-index c.reserve.new.self one before;
  done = all_taken_more (λ (s : Sorted g.row.K.Denot g.row.V.Denot). c.args.count ≤ s.spare) c.loop-shelf.fresh c.loop-shelf.shelf-index c.reserve.new.self c.in_ok-reserve.ensures.ok c.loop-shelf.invariant.done;
}

pub returns-clause-ok : goal.returns-clause-ok
returns-clause-ok g c spare all =
    let done = all_taken (λ (s : Sorted g.row.K.Denot g.row.V.Denot). c.args.count ≤ s.spare) c.loop-shelf.fresh c.loop-shelf.shelf-index (omega arith) c.loop-shelf.invariant.done in
    all_both {P = IsFresh spare} {Q = λ (s : Sorted g.row.K.Denot g.row.V.Denot). c.args.count ≤ s.spare} {R = IsFresh c.args.count} (λ s fresh room. record { empty = fresh.empty; room = room }) c.loop-shelf.fresh (c.loop-shelf.invariant.pool spare all) done
