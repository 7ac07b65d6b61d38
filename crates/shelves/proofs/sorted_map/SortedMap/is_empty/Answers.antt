-- The map is empty where there are no entries.
use Rattle.shelves.proofs.MapLemmas.{empty_is}
use Rattle.shelves.proofs.sorted_map.SortedMap.is_empty.Goals as goal

pub returns : goal.returns
returns g c = rw (← c.self.view_is) (empty_is g.K.Ord.cmp g.met.K.Ord.total _ _ _ c.self.invariant c.self.inside.items.ok.0 c.is_empty.ensures)
