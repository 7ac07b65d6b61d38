-- The value stands at the place that the search found.
use Rattle.shelves.proofs.MapLemmas.{got, missed}
use Rattle.shelves.proofs.PlaceLemmas.{held_in, gap_in}
use Rattle.shelves.proofs.sorted_map.SortedMap.get.Goals as goal

pub returns-in-Ok : goal.returns-in-Ok
returns-in-Ok g c =
    let R = g.K.Ord.cmp in
    let total = g.met.K.Ord.total in
    rw (← c.self.view_is) (got R total _ c.args.key.now _ _ c.self.invariant (held_in R total c.args.key.now c.deref.ensures.value c.in-Ok.ensures) c.index.ensures)

pub returns-in-Err : goal.returns-in-Err
returns-in-Err g c =
    let R = g.K.Ord.cmp in
    let total = g.met.K.Ord.total in
    rw (← c.self.view_is) (missed R total _ c.args.key.now _ c.self.invariant (gap_in R total c.args.key.now c.deref.ensures.value c.in-Err.ensures))
