-- The value goes on the shelf of its name, or on a fresh one.
use Rattle.std.proofs.Common.{◌≡◌, ◌≤◌, ◌+◌, ℕ, List, cond, length, vec_len, refl, sym, ap, subst, ◌∙◌, arith, length-append}
use Rattle.std.specs.Cmp.Lexicographic.{nat_list_cmp_total}
use Rattle.std.specs.FinMap as finite
use Rattle.doc_tree.specs.Text.{text_cmp}
use Rattle.shelves.specs.Places.{IsInKeyOrder}
use Rattle.shelves.specs.SortedMap.{Sorted}
use Rattle.shelves.proofs.MapLemmas.{written_is, added_is, map_none}
use Rattle.shelves.proofs.PlaceLemmas.{held_in, gap_in}
use Rattle.shelves.proofs.RoomLemmas.{room-put, pool_last, pool_front}
use Rattle.shelves.proofs.ShelfLemmas.{names_kept, shelf_at, shelf_none, are-put, put_is, shelf-put}
use Rattle.shelves.proofs.ValueLemmas.{all_get}
use Rattle.shelves.proofs.shelves.Shelves.put.Goals as goal

pub search-requires : goal.search-requires
search-requires g c = subst (λ l. IsInKeyOrder text_cmp l) (sym c.deref.ensures.value) (names_kept {K = g.row.K.Denot} {V = g.row.V.Denot} c.self.inside.shelves.items c.self.invariant.shelves.names)

-- ---- the name has a shelf

pub insert-requires : goal.insert-requires
insert-requires g c =
    let one : 1 ≤ c.self.inside.spare = rw (← c.self.view_is) at c.requires in
    let here = held_in text_cmp nat_list_cmp_total c.args.name c.deref.ensures.value c.in-Ok.ensures in
    let room = all_get (λ (e : List ℕ × Sorted g.row.K.Denot g.row.V.Denot). c.self.inside.spare ≤ e.1.spare) c.self.inside.shelves.items c.in-Ok.at c.index_mut.result.now here.within c.index_mut.ensures.value c.self.invariant.room.each in
    omega (arith, one, room)

pub invariant_of-self : goal.invariant_of-self
invariant_of-self g c =
    let R = g.K.Ord.cmp in
    let o = g.met.K.Ord.total in
    let shelves = c.self.inside.shelves.items in
    let x = c.index_mut.result.now in
    let shelf = c.insert.new.self in
    let here = held_in text_cmp nat_list_cmp_total c.args.name c.deref.ensures.value c.in-Ok.ensures in
    let is = written_is text_cmp nat_list_cmp_total shelves c.args.name c.in-Ok.at x shelf shelf here c.index_mut.ensures.value refl in
    let room = all_get (λ (e : List ℕ × Sorted g.row.K.Denot g.row.V.Denot). c.self.inside.spare ≤ e.1.spare) shelves c.in-Ok.at x here.within c.index_mut.ensures.value c.self.invariant.room.each in
    record {
      shelves = are-put R o shelves _ c.args.name c.self.invariant.shelves shelf is (shelf-put R o shelf _ c.args.key c.args.value c.insert.ensures.order c.insert.ensures.map);
      room = room-put c.self.inside.spare _ _ shelves _ _ _ c.args.name shelf c.self.invariant.room is (omega (arith, room, c.insert.ensures.spare)) (omega arith) (omega arith) c.self.invariant.room.pool;
    }

pub returns-in-Ok-clause-shelves : goal.returns-in-Ok-clause-shelves
returns-in-Ok-clause-shelves g c =
    let R = g.K.Ord.cmp in
    let o = g.met.K.Ord.total in
    let shelves = c.self.inside.shelves.items in
    let x = c.index_mut.result.now in
    let shelf = c.insert.new.self in
    let here = held_in text_cmp nat_list_cmp_total c.args.name c.deref.ensures.value c.in-Ok.ensures in
    let is = written_is text_cmp nat_list_cmp_total shelves c.args.name c.in-Ok.at x shelf shelf here c.index_mut.ensures.value refl in
    rw (← c.self.view_is) (put_is R o shelves _ c.args.name c.self.invariant.shelves c.args.key c.args.value shelf _ is (shelf_at R o shelves c.args.name c.in-Ok.at c.self.invariant.shelves x here c.index_mut.ensures.value) c.insert.ensures.map)

pub returns-in-Ok-clause-value : goal.returns-in-Ok-clause-value
returns-in-Ok-clause-value g c =
    let R = g.K.Ord.cmp in
    let o = g.met.K.Ord.total in
    let shelves = c.self.inside.shelves.items in
    let x = c.index_mut.result.now in
    let here = held_in text_cmp nat_list_cmp_total c.args.name c.deref.ensures.value c.in-Ok.ensures in
    rw (← c.self.view_is) (c.insert.ensures.value ∙ ap (λ m. finite.get m c.args.key) (shelf_at R o shelves c.args.name c.in-Ok.at c.self.invariant.shelves x here c.index_mut.ensures.value))

-- ---- the name is new

pub insert-old-requires : goal.insert-old-requires
insert-old-requires g c =
    let one : 1 ≤ c.self.inside.spare = rw (← c.self.view_is) at c.requires in
    let fresh = pool_last c.self.inside.spare c.self.inside.fresh.items c.pop.new.self.items c.in-Some.shelf c.in-Some.ensures.items c.self.invariant.room.pool in
    omega (arith, one, fresh.room)

pub invariant_of-self-in-Err : goal.invariant_of-self-in-Err
invariant_of-self-in-Err g c =
    let R = g.K.Ord.cmp in
    let o = g.met.K.Ord.total in
    let one : 1 ≤ c.self.inside.spare = rw (← c.self.view_is) at c.requires in
    let shelves = c.self.inside.shelves.items in
    let shelf = c.insert-old.new.self in
    let gap = gap_in text_cmp nat_list_cmp_total c.args.name c.deref.ensures.value c.in-Err.ensures in
    let ok = c.insert-in-Err.ensures.succeeds (omega (arith, one, c.self.invariant.room.more)) in
    let is = added_is text_cmp nat_list_cmp_total shelf _ gap c.insert-in-Err.ensures.items ok in
    let len : vec_len c.insert-in-Err.new.self ≡ vec_len c.self.inside.shelves + 1 = c.insert-in-Err.ensures.len ∙ ap (λ b. cond b (vec_len c.self.inside.shelves + 1) (vec_len c.self.inside.shelves)) ok in
    let popped = c.in-Some.ensures.items in
    let fresh = pool_last c.self.inside.spare c.self.inside.fresh.items c.pop.new.self.items c.in-Some.shelf popped c.self.invariant.room.pool in
    let left = pool_front c.self.inside.spare c.self.inside.fresh.items c.pop.new.self.items c.in-Some.shelf popped c.self.invariant.room.pool in
    let count : length c.self.inside.fresh.items ≡ length c.pop.new.self.items + 1 = ap length popped ∙ length-append c.pop.new.self.items _ in
    record {
      shelves = are-put R o shelves _ c.args.name c.self.invariant.shelves shelf is (shelf-put R o shelf _ c.args.key c.args.value c.insert-old.ensures.order c.insert-old.ensures.map);
      room = room-put c.self.inside.spare _ _ shelves _ _ _ c.args.name shelf c.self.invariant.room is (omega (arith, fresh.room, c.insert-old.ensures.spare)) (omega (arith, len, c.insert-in-Err.ensures.capacity)) (omega (arith, count)) left;
    }

pub returns-in-Some-clause-shelves : goal.returns-in-Some-clause-shelves
returns-in-Some-clause-shelves g c =
    let R = g.K.Ord.cmp in
    let o = g.met.K.Ord.total in
    let one : 1 ≤ c.self.inside.spare = rw (← c.self.view_is) at c.requires in
    let shelves = c.self.inside.shelves.items in
    let shelf = c.insert-old.new.self in
    let gap = gap_in text_cmp nat_list_cmp_total c.args.name c.deref.ensures.value c.in-Err.ensures in
    let is = added_is text_cmp nat_list_cmp_total shelf _ gap c.insert-in-Err.ensures.items (c.insert-in-Err.ensures.succeeds (omega (arith, one, c.self.invariant.room.more))) in
    let fresh = pool_last c.self.inside.spare c.self.inside.fresh.items c.pop.new.self.items c.in-Some.shelf c.in-Some.ensures.items c.self.invariant.room.pool in
    let none = ap (λ l. finite.from_sorted {R = R} l) fresh.empty ∙ map_none R o in
    rw (← c.self.view_is) (put_is R o shelves _ c.args.name c.self.invariant.shelves c.args.key c.args.value shelf _ is (none ∙ shelf_none R o shelves c.args.name _ c.self.invariant.shelves gap) c.insert-old.ensures.map)

pub returns-in-Some-clause-value : goal.returns-in-Some-clause-value
returns-in-Some-clause-value g c =
    let R = g.K.Ord.cmp in
    let o = g.met.K.Ord.total in
    let shelves = c.self.inside.shelves.items in
    let gap = gap_in text_cmp nat_list_cmp_total c.args.name c.deref.ensures.value c.in-Err.ensures in
    let fresh = pool_last c.self.inside.spare c.self.inside.fresh.items c.pop.new.self.items c.in-Some.shelf c.in-Some.ensures.items c.self.invariant.room.pool in
    let none = ap (λ l. finite.from_sorted {R = R} l) fresh.empty ∙ map_none R o in
    rw (← c.self.view_is) (c.insert-old.ensures.value ∙ ap (λ m. finite.get m c.args.key) (none ∙ shelf_none R o shelves c.args.name _ c.self.invariant.shelves gap))
