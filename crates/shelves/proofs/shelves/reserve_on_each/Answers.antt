-- A shelf that gets more room has what it had.
use Rattle.std.proofs.Common.{◌≤◌, ℕ, List, get_or, ap, ◌∙◌, arith}
use Rattle.shelves.specs.SortedMap.{Sorted}
use Rattle.shelves.proofs.RoomLemmas.{seen_set}
use Rattle.shelves.proofs.ValueLemmas.{all_get, all_set, all_taken_more}
use Rattle.shelves.proofs.shelves.reserve_on_each.Goals as goal

pub returns-in_err-reserve-clause-seen : goal.returns-in_err-reserve-clause-seen
returns-in_err-reserve-clause-seen g c =
    let shelves = c.loop-shelf.shelves in
    let i = c.loop-shelf.shelf-index in
    let x = get_or shelves i c.shelves-item.result in
    seen_set shelves i x c.reserve.new.self (ap (λ d. get_or shelves i d) c.shelves-item.is) c.reserve.ensures.entries (omega arith) ∙ c.loop-shelf.invariant.seen

pub returns-in_err-reserve-clause-room : goal.returns-in_err-reserve-clause-room
returns-in_err-reserve-clause-room g c spare all =
    let shelves = c.loop-shelf.shelves in
    let i = c.loop-shelf.shelf-index in
    let x = get_or shelves i c.shelves-item.result in
    let before = c.loop-shelf.invariant.room spare all in
    let old = all_get (λ (e : List ℕ × Sorted g.row.K.Denot g.row.V.Denot). spare ≤ e.1.spare) shelves i x (omega arith) (ap (λ d. get_or shelves i d) c.shelves-item.is) before in
    all_set (λ (e : List ℕ × Sorted g.row.K.Denot g.row.V.Denot). spare ≤ e.1.spare) shelves i (x.0, c.reserve.new.self) (omega (arith, old, c.reserve.ensures.spare)) before

pub loop-shelf-preserved : goal.loop-shelf-preserved
loop-shelf-preserved g c =
    let shelves = c.loop-shelf.shelves in
    let i = c.loop-shelf.shelf-index in
    let x = get_or shelves i c.shelves-item.result in
    record {
      seen = seen_set shelves i x c.reserve.new.self (ap (λ d. get_or shelves i d) c.shelves-item.is) c.reserve.ensures.entries (omega arith) ∙ c.loop-shelf.invariant.seen;
      room = λ spare all.
          let before = c.loop-shelf.invariant.room spare all in
          let old = all_get (λ (e : List ℕ × Sorted g.row.K.Denot g.row.V.Denot). spare ≤ e.1.spare) shelves i x (omega arith) (ap (λ d. get_or shelves i d) c.shelves-item.is) before in
          all_set (λ (e : List ℕ × Sorted g.row.K.Denot g.row.V.Denot). spare ≤ e.1.spare) shelves i (x.0, c.reserve.new.self) (omega (arith, old, c.reserve.ensures.spare)) before;
      done = all_taken_more (λ (e : List ℕ × Sorted g.row.K.Denot g.row.V.Denot). c.args.count ≤ e.1.spare) shelves i (x.0, c.reserve.new.self) c.in_ok-reserve.ensures.ok c.loop-shelf.invariant.done;
    }
