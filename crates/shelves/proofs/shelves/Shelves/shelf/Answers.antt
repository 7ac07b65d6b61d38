-- The shelf stands at the place that the search found.
use Rattle.std.proofs.Common.{sym, subst}
use Rattle.std.specs.Cmp.Lexicographic.{nat_list_cmp_total}
use Rattle.doc_tree.specs.Text.{text_cmp}
use Rattle.shelves.specs.Places.{IsInKeyOrder}
use Rattle.shelves.proofs.PlaceLemmas.{held_in, gap_in}
use Rattle.shelves.proofs.ShelfLemmas.{names_kept, shelf_found, shelf_missing, filled-store}
use Rattle.shelves.proofs.shelves.Shelves.shelf.Goals as goal

pub search-requires : goal.search-requires
search-requires g c = subst (λ l. IsInKeyOrder text_cmp l) (sym c.deref.ensures.value) (names_kept {K = g.row.K.Denot} {V = g.row.V.Denot} c.self.inside.shelves.items c.self.invariant.shelves.names)

pub returns-in-Ok-clause-shelf : goal.returns-in-Ok-clause-shelf
returns-in-Ok-clause-shelf g c =
    let here = held_in text_cmp nat_list_cmp_total c.args.name.now c.deref.ensures.value c.in-Ok.ensures in
    rw (← c.self.view_is) (shelf_found g.K.Ord.cmp g.met.K.Ord.total c.self.inside.shelves.items c.args.name.now c.in-Ok.at c.self.invariant.shelves c.index.result.now here c.index.ensures)

pub returns-in-Ok-clause-filled : goal.returns-in-Ok-clause-filled
returns-in-Ok-clause-filled g c = rw (← c.self.view_is) (filled-store g.K.Ord.cmp g.met.K.Ord.total c.self.inside.shelves.items c.self.invariant.shelves)

pub returns-in-Err-clause-shelf : goal.returns-in-Err-clause-shelf
returns-in-Err-clause-shelf g c =
    let gap = gap_in text_cmp nat_list_cmp_total c.args.name.now c.deref.ensures.value c.in-Err.ensures in
    rw (← c.self.view_is) (shelf_missing g.K.Ord.cmp g.met.K.Ord.total c.self.inside.shelves.items c.args.name.now _ c.self.invariant.shelves gap)

pub returns-in-Err-clause-filled : goal.returns-in-Err-clause-filled
returns-in-Err-clause-filled g c = rw (← c.self.view_is) (filled-store g.K.Ord.cmp g.met.K.Ord.total c.self.inside.shelves.items c.self.invariant.shelves)
