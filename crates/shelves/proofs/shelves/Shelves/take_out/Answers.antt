-- What is left on the shelf stays, and a shelf on which nothing is left goes.
use Rattle.std.proofs.Common.{◌≢◌, ◌≤◌, ℕ, List, refl, sym, ap, subst, ◌∙◌, arith}
use mathlib.Core.Bool.{true≢false}
use Rattle.std.specs.Cmp.Lexicographic.{nat_list_cmp_total}
use Rattle.std.specs.FinMap as finite
use Rattle.doc_tree.specs.Text.{text_cmp}
use Rattle.shelves.specs.Places.{IsInKeyOrder}
use Rattle.shelves.specs.SortedMap.{Sorted, map_of}
use Rattle.shelves.proofs.MapLemmas.{written_is}
use Rattle.shelves.proofs.PlaceLemmas.{held_in, gap_in}
use Rattle.shelves.proofs.RoomLemmas.{room-left, room-without}
use Rattle.shelves.proofs.ShelfLemmas.{names_kept, shelf_at, shelf_missing, shelf_none, are-put, are-without, left_is, emptied_is, unchanged_is, shelf-left}
use Rattle.shelves.proofs.ValueLemmas.{all_get, remove-set}
use Rattle.shelves.proofs.shelves.Shelves.take_out.Goals as goal

pub search-requires : goal.search-requires
search-requires g c = subst (λ l. IsInKeyOrder text_cmp l) (sym c.deref.ensures.value) (names_kept {K = g.row.K.Denot} {V = g.row.V.Denot} c.self.inside.shelves.items c.self.invariant.shelves.names)

-- ---- nothing is left on the shelf

pub invariant_of-self : goal.invariant_of-self
invariant_of-self g c =
    let R = g.K.Ord.cmp in
    let o = g.met.K.Ord.total in
    let shelves = c.self.inside.shelves.items in
    let here = held_in text_cmp nat_list_cmp_total c.args.name.now c.deref.ensures.value c.in-Ok.ensures in
    let is = c.remove.ensures.items ∙ remove-set shelves c.in-Ok.at (c.index_mut.result.now.0, c.remove-value.new.self) ∙ sym here.taken in
    record {
      shelves = are-without R o shelves _ c.args.name.now c.self.invariant.shelves is;
      room = room-without c.self.inside.spare _ _ shelves _ _ c.args.name.now c.self.invariant.room is (omega (arith, c.remove.ensures.len, c.remove.ensures.capacity));
    }

pub returns-then-is_empty-clause-shelves : goal.returns-then-is_empty-clause-shelves
returns-then-is_empty-clause-shelves g c =
    let R = g.K.Ord.cmp in
    let o = g.met.K.Ord.total in
    let shelves = c.self.inside.shelves.items in
    let x = c.index_mut.result.now in
    let here = held_in text_cmp nat_list_cmp_total c.args.name.now c.deref.ensures.value c.in-Ok.ensures in
    let is = c.remove.ensures.items ∙ remove-set shelves c.in-Ok.at (x.0, c.remove-value.new.self) ∙ sym here.taken in
    rw (← c.self.view_is) (emptied_is R o shelves _ c.args.name.now c.self.invariant.shelves c.args.key.now c.remove-value.new.self _ is (shelf_at R o shelves c.args.name.now c.in-Ok.at c.self.invariant.shelves x here c.index_mut.ensures.value) c.remove-value.ensures.map (c.is_empty.ensures.0 c.if-is_empty.true))

pub returns-then-is_empty-clause-value : goal.returns-then-is_empty-clause-value
returns-then-is_empty-clause-value g c =
    let here = held_in text_cmp nat_list_cmp_total c.args.name.now c.deref.ensures.value c.in-Ok.ensures in
    let was = shelf_at g.K.Ord.cmp g.met.K.Ord.total c.self.inside.shelves.items c.args.name.now c.in-Ok.at c.self.invariant.shelves c.index_mut.result.now here c.index_mut.ensures.value in
    rw (← c.self.view_is) (c.remove-value.ensures.value ∙ ap (λ m. finite.get m c.args.key.now) was)

-- ---- something is left

pub invariant_of-self-else-is_empty : goal.invariant_of-self-else-is_empty
invariant_of-self-else-is_empty g c =
    let R = g.K.Ord.cmp in
    let o = g.met.K.Ord.total in
    let shelves = c.self.inside.shelves.items in
    let x = c.index_mut.result.now in
    let shelf = c.remove-value.new.self in
    let here = held_in text_cmp nat_list_cmp_total c.args.name.now c.deref.ensures.value c.in-Ok.ensures in
    let is = written_is text_cmp nat_list_cmp_total shelves c.args.name.now c.in-Ok.at x shelf shelf here c.index_mut.ensures.value refl in
    let room = all_get (λ (e : List ℕ × Sorted g.row.K.Denot g.row.V.Denot). c.self.inside.spare ≤ e.1.spare) shelves c.in-Ok.at x here.within c.index_mut.ensures.value c.self.invariant.room.each in
    let some : map_of R shelf ≢ finite.empty = λ e. true≢false (sym (c.is_empty.ensures.1 e) ∙ c.if-is_empty.false) in
    record {
      shelves = are-put R o shelves _ c.args.name.now c.self.invariant.shelves shelf is (shelf-left R o shelf c.remove-value.ensures.order some);
      room = room-left c.self.inside.spare _ shelves _ _ c.args.name.now shelf c.self.invariant.room is (omega (arith, room, c.remove-value.ensures.spare));
    }

pub returns-else-is_empty-clause-shelves : goal.returns-else-is_empty-clause-shelves
returns-else-is_empty-clause-shelves g c =
    let R = g.K.Ord.cmp in
    let o = g.met.K.Ord.total in
    let shelves = c.self.inside.shelves.items in
    let x = c.index_mut.result.now in
    let shelf = c.remove-value.new.self in
    let here = held_in text_cmp nat_list_cmp_total c.args.name.now c.deref.ensures.value c.in-Ok.ensures in
    let is = written_is text_cmp nat_list_cmp_total shelves c.args.name.now c.in-Ok.at x shelf shelf here c.index_mut.ensures.value refl in
    let was = shelf_at R o shelves c.args.name.now c.in-Ok.at c.self.invariant.shelves x here c.index_mut.ensures.value in
    rw (← c.self.view_is) (left_is R o shelves _ c.args.name.now c.self.invariant.shelves c.args.key.now shelf _ is was c.remove-value.ensures.map (λ e. true≢false (sym (c.is_empty.ensures.1 e) ∙ c.if-is_empty.false)))

pub returns-else-is_empty-clause-value : goal.returns-else-is_empty-clause-value
returns-else-is_empty-clause-value g c =
    let here = held_in text_cmp nat_list_cmp_total c.args.name.now c.deref.ensures.value c.in-Ok.ensures in
    let was = shelf_at g.K.Ord.cmp g.met.K.Ord.total c.self.inside.shelves.items c.args.name.now c.in-Ok.at c.self.invariant.shelves c.index_mut.result.now here c.index_mut.ensures.value in
    rw (← c.self.view_is) (c.remove-value.ensures.value ∙ ap (λ m. finite.get m c.args.key.now) was)

-- ---- the name has no shelf

pub returns-in-Err-clause-shelves : goal.returns-in-Err-clause-shelves
returns-in-Err-clause-shelves g c =
    let R = g.K.Ord.cmp in
    let o = g.met.K.Ord.total in
    let gap = gap_in text_cmp nat_list_cmp_total c.args.name.now c.deref.ensures.value c.in-Err.ensures in
    rw (← c.self.view_is) (unchanged_is R o c.self.inside.shelves.items c.args.name.now c.args.key.now (shelf_missing R o c.self.inside.shelves.items c.args.name.now _ c.self.invariant.shelves gap))

pub returns-in-Err-clause-value : goal.returns-in-Err-clause-value
returns-in-Err-clause-value g c =
    let R = g.K.Ord.cmp in
    let gap = gap_in text_cmp nat_list_cmp_total c.args.name.now c.deref.ensures.value c.in-Err.ensures in
    rw (← c.self.view_is) (sym (finite.get-empty R c.args.key.now) ∙ ap (λ m. finite.get m c.args.key.now) (shelf_none R g.met.K.Ord.total c.self.inside.shelves.items c.args.name.now _ c.self.invariant.shelves gap))
