-- What is there stays at each exit, and the number rises where all room is there.
use Rattle.std.proofs.Common.{length, sym, ap, subst, ◌∙◌, arith}
use Rattle.shelves.specs.Rooms.{shelves_seen, HaveRoomEach, AreFresh}
use Rattle.shelves.proofs.RoomLemmas.{written_over}
use Rattle.shelves.proofs.shelves.make_room.Goals as goal

pub returns-in_err-reserve-clause-room : goal.returns-in_err-reserve-clause-room
returns-in_err-reserve-clause-room g c = λ n le have. record {
  more = omega (arith, have.more, c.reserve.ensures.capacity, c.reserve.ensures.len);
  each = subst (λ l. HaveRoomEach n l) (sym c.reserve.ensures.items) have.each;
  count = have.count;
  pool = have.pool;
}

pub returns-in_err-reserve_on_each-clause-seen : goal.returns-in_err-reserve_on_each-clause-seen
returns-in_err-reserve_on_each-clause-seen g c =
    let items = c.reserve.new.self.items in
    let all = written_over c.reserve.new.self.len items c.reserve_on_each.new.shelves (omega (arith, c.reserve_on_each.auto.shelves, c.deref_mut.ensures.len)) in
    ap shelves_seen all ∙ c.reserve_on_each.ensures.seen ∙ ap shelves_seen (c.deref_mut.ensures.value ∙ c.reserve.ensures.items)

pub returns-in_err-reserve_on_each-clause-room : goal.returns-in_err-reserve_on_each-clause-room
returns-in_err-reserve_on_each-clause-room g c = λ n le have.
    let items = c.reserve.new.self.items in
    let all = written_over c.reserve.new.self.len items c.reserve_on_each.new.shelves (omega (arith, c.reserve_on_each.auto.shelves, c.deref_mut.ensures.len)) in
    let each = c.reserve_on_each.ensures.room n (subst (λ l. HaveRoomEach n l) (sym (c.deref_mut.ensures.value ∙ c.reserve.ensures.items)) have.each) in
    record {
      more = omega (arith, have.more, c.reserve.ensures.capacity, c.reserve.ensures.len);
      each = subst (λ l. HaveRoomEach n l) (sym all) each;
      count = have.count;
      pool = have.pool;
    }

pub returns-in_err-reserve_in_pool-clause-seen : goal.returns-in_err-reserve_in_pool-clause-seen
returns-in_err-reserve_in_pool-clause-seen g c =
    let items = c.reserve.new.self.items in
    let all = written_over c.reserve.new.self.len items c.reserve_on_each.new.shelves (omega (arith, c.reserve_on_each.auto.shelves, c.deref_mut.ensures.len)) in
    ap shelves_seen all ∙ c.reserve_on_each.ensures.seen ∙ ap shelves_seen (c.deref_mut.ensures.value ∙ c.reserve.ensures.items)

pub returns-in_err-reserve_in_pool-clause-room : goal.returns-in_err-reserve_in_pool-clause-room
returns-in_err-reserve_in_pool-clause-room g c = λ n le have.
    let items = c.reserve.new.self.items in
    let all = written_over c.reserve.new.self.len items c.reserve_on_each.new.shelves (omega (arith, c.reserve_on_each.auto.shelves, c.deref_mut.ensures.len)) in
    let each = c.reserve_on_each.ensures.room n (subst (λ l. HaveRoomEach n l) (sym (c.deref_mut.ensures.value ∙ c.reserve.ensures.items)) have.each) in
    let fresh = c.reserve_in_pool.new.fresh in
    let every = written_over c.args.fresh.now.len c.args.fresh.now.items fresh (omega (arith, c.reserve_in_pool.auto.fresh, c.deref_mut-2.ensures.len)) in
    let pool = c.reserve_in_pool.ensures.pool n (subst (λ l. AreFresh n l) (sym c.deref_mut-2.ensures.value) have.pool) in
    record {
      more = omega (arith, have.more, c.reserve.ensures.capacity, c.reserve.ensures.len);
      each = subst (λ l. HaveRoomEach n l) (sym all) each;
      count = omega (arith, have.count, ap length every, c.reserve_in_pool.auto.fresh, c.deref_mut-2.ensures.len);
      pool = subst (λ l. AreFresh n l) (sym every) pool;
    }

pub returns-in_err-fill_pool-clause-seen : goal.returns-in_err-fill_pool-clause-seen
returns-in_err-fill_pool-clause-seen g c =
    let items = c.reserve.new.self.items in
    let all = written_over c.reserve.new.self.len items c.reserve_on_each.new.shelves (omega (arith, c.reserve_on_each.auto.shelves, c.deref_mut.ensures.len)) in
    ap shelves_seen all ∙ c.reserve_on_each.ensures.seen ∙ ap shelves_seen (c.deref_mut.ensures.value ∙ c.reserve.ensures.items)

pub returns-in_err-fill_pool-clause-room : goal.returns-in_err-fill_pool-clause-room
returns-in_err-fill_pool-clause-room g c = λ n le have.
    let items = c.reserve.new.self.items in
    let all = written_over c.reserve.new.self.len items c.reserve_on_each.new.shelves (omega (arith, c.reserve_on_each.auto.shelves, c.deref_mut.ensures.len)) in
    let each = c.reserve_on_each.ensures.room n (subst (λ l. HaveRoomEach n l) (sym (c.deref_mut.ensures.value ∙ c.reserve.ensures.items)) have.each) in
    let fresh = c.reserve_in_pool.new.fresh in
    let every = written_over c.args.fresh.now.len c.args.fresh.now.items fresh (omega (arith, c.reserve_in_pool.auto.fresh, c.deref_mut-2.ensures.len)) in
    let pool = c.reserve_in_pool.ensures.pool n (subst (λ l. AreFresh n l) (sym c.deref_mut-2.ensures.value) have.pool) in
    record {
      more = omega (arith, have.more, c.reserve.ensures.capacity, c.reserve.ensures.len);
      each = subst (λ l. HaveRoomEach n l) (sym all) each;
      count = omega (arith, have.count, ap length every, c.reserve_in_pool.auto.fresh, c.deref_mut-2.ensures.len, c.fill_pool.ensures.len);
      pool = c.fill_pool.ensures.pool n le (subst (λ l. AreFresh n l) (sym every) pool);
    }

pub returns-clause-seen : goal.returns-clause-seen
returns-clause-seen g c =
    let items = c.reserve.new.self.items in
    let all = written_over c.reserve.new.self.len items c.reserve_on_each.new.shelves (omega (arith, c.reserve_on_each.auto.shelves, c.deref_mut.ensures.len)) in
    ap shelves_seen all ∙ c.reserve_on_each.ensures.seen ∙ ap shelves_seen (c.deref_mut.ensures.value ∙ c.reserve.ensures.items)

pub returns-clause-room : goal.returns-clause-room
returns-clause-room g c = λ n le have.
    let items = c.reserve.new.self.items in
    let all = written_over c.reserve.new.self.len items c.reserve_on_each.new.shelves (omega (arith, c.reserve_on_each.auto.shelves, c.deref_mut.ensures.len)) in
    let each = c.reserve_on_each.ensures.room n (subst (λ l. HaveRoomEach n l) (sym (c.deref_mut.ensures.value ∙ c.reserve.ensures.items)) have.each) in
    let fresh = c.reserve_in_pool.new.fresh in
    let every = written_over c.args.fresh.now.len c.args.fresh.now.items fresh (omega (arith, c.reserve_in_pool.auto.fresh, c.deref_mut-2.ensures.len)) in
    let pool = c.reserve_in_pool.ensures.pool n (subst (λ l. AreFresh n l) (sym c.deref_mut-2.ensures.value) have.pool) in
    record {
      more = omega (arith, have.more, c.reserve.ensures.capacity, c.reserve.ensures.len);
      each = subst (λ l. HaveRoomEach n l) (sym all) each;
      count = omega (arith, have.count, ap length every, c.reserve_in_pool.auto.fresh, c.deref_mut-2.ensures.len, c.fill_pool.ensures.len);
      pool = c.fill_pool.ensures.pool n le (subst (λ l. AreFresh n l) (sym every) pool);
    }

pub returns-clause-ok : goal.returns-clause-ok
returns-clause-ok g c = λ n here.
    let items = c.reserve.new.self.items in
    let all = written_over c.reserve.new.self.len items c.reserve_on_each.new.shelves (omega (arith, c.reserve_on_each.auto.shelves, c.deref_mut.ensures.len)) in
    let fresh = c.reserve_in_pool.new.fresh in
    let every = written_over c.args.fresh.now.len c.args.fresh.now.items fresh (omega (arith, c.reserve_in_pool.auto.fresh, c.deref_mut-2.ensures.len)) in
    let pool = c.in_ok-reserve_in_pool.ensures.ok n (subst (λ l. AreFresh n l) (sym c.deref_mut-2.ensures.value) here) in
    record {
      more = omega (arith, c.in_ok-reserve.ensures.ok);
      each = subst (λ l. HaveRoomEach c.args.count l) (sym all) c.in_ok-reserve_on_each.ensures.ok;
      count = c.in_ok-fill_pool.ensures.ok;
      pool = c.fill_pool.ensures.pool c.args.count (omega arith) (subst (λ l. AreFresh c.args.count l) (sym every) pool);
    }
