-- A shelf that is put into the pool is empty, and has the room.
use Rattle.std.proofs.Common.{length, sym, ap, subst, ◌∙◌, arith, length-append}
use Rattle.shelves.specs.Rooms.{IsFresh, AreFresh}
use Rattle.shelves.proofs.ValueLemmas.{all_push}
use Rattle.shelves.proofs.shelves.fill_pool.Goals as goal

pub loop-alloc-preserved : goal.loop-alloc-preserved
loop-alloc-preserved g c =
    let shelf = c.reserve.new.self in
    let items = c.in_ok-push.ensures.items in
    record {
      pool = λ spare le all.
          let one : IsFresh spare shelf = record { empty = c.reserve.ensures.entries ∙ c.new-shelf.ensures.entries; room = omega (arith, le, c.in_ok-reserve.ensures.ok) } in
          subst (λ l. AreFresh spare l) (sym items) (all_push (IsFresh spare) c.loop-alloc.fresh.items shelf (c.loop-alloc.invariant.pool spare le all) one);
      len = omega (arith, c.loop-alloc.invariant.len, ap length items ∙ length-append c.loop-alloc.fresh.items _);
    }

pub returns-in_err-push-clause-pool : goal.returns-in_err-push-clause-pool
returns-in_err-push-clause-pool g c spare le all = subst (λ l. AreFresh spare l) (sym c.in_err-push.ensures.items) (c.loop-alloc.invariant.pool spare le all)
