-- The shelf goes from where it stands.
use Rattle.std.proofs.Common.{sym, subst, ◌∙◌, arith}
use Rattle.std.specs.Cmp.Lexicographic.{nat_list_cmp_total}
use Rattle.doc_tree.specs.Text.{text_cmp}
use Rattle.shelves.specs.Places.{IsInKeyOrder}
use Rattle.shelves.proofs.PlaceLemmas.{held_in, gap_in}
use Rattle.shelves.proofs.RoomLemmas.{room-without}
use Rattle.shelves.proofs.ShelfLaws.{text_same, remove_absent}
use Rattle.shelves.proofs.ShelfLemmas.{names_kept, shelf_missing, are-without, store, store-without}
use Rattle.shelves.proofs.shelves.Shelves.remove_shelf.Goals as goal

pub search-requires : goal.search-requires
search-requires g c = subst (λ l. IsInKeyOrder text_cmp l) (sym c.deref.ensures.value) (names_kept {K = g.row.K.Denot} {V = g.row.V.Denot} c.self.inside.shelves.items c.self.invariant.shelves.names)

pub invariant_of-self : goal.invariant_of-self
invariant_of-self g c =
    let shelves = c.self.inside.shelves.items in
    let here = held_in text_cmp nat_list_cmp_total c.args.name.now c.deref.ensures.value c.in-Ok.ensures in
    let is = c.remove.ensures.items ∙ sym here.taken in
    record {
      shelves = are-without g.K.Ord.cmp g.met.K.Ord.total shelves _ c.args.name.now c.self.invariant.shelves is;
      room = room-without c.self.inside.spare _ _ shelves _ _ c.args.name.now c.self.invariant.room is (omega (arith, c.remove.ensures.len, c.remove.ensures.capacity));
    }

pub returns-in-Ok-clause-shelves : goal.returns-in-Ok-clause-shelves
returns-in-Ok-clause-shelves g c =
    let here = held_in text_cmp nat_list_cmp_total c.args.name.now c.deref.ensures.value c.in-Ok.ensures in
    rw (← c.self.view_is) (store-without g.K.Ord.cmp g.met.K.Ord.total c.self.inside.shelves.items _ c.args.name.now c.self.invariant.shelves (c.remove.ensures.items ∙ sym here.taken))

pub returns-in_default-clause-shelves : goal.returns-in_default-clause-shelves
returns-in_default-clause-shelves g c =
    let R = g.K.Ord.cmp in
    let shelves = c.self.inside.shelves.items in
    let gap = gap_in text_cmp nat_list_cmp_total c.args.name.now c.deref.ensures.value c.in_default.ensures in
    rw (← c.self.view_is) (sym (remove_absent nat_list_cmp_total text_same (store R g.met.K.Ord.total shelves) c.args.name.now (sym (shelf_missing R g.met.K.Ord.total shelves c.args.name.now _ c.self.invariant.shelves gap))))
