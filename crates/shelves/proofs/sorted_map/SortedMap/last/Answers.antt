-- The last of the entries has the greatest key.
use Rattle.std.proofs.Common.{◌∙◌}
use Rattle.shelves.proofs.MapLemmas.{last_is, greatest_of}
use Rattle.shelves.proofs.sorted_map.SortedMap.last.Goals as goal

pub returns-clause-entry : goal.returns-clause-entry
returns-clause-entry g c = rw (← c.self.view_is) (rw (← c.deref.ensures.value) c.last.ensures.value ∙ last_is g.K.Ord.cmp g.met.K.Ord.total _ c.self.invariant)

pub returns-clause-greatest : goal.returns-clause-greatest
returns-clause-greatest g c = rw (← c.self.view_is) (greatest_of g.K.Ord.cmp g.met.K.Ord.total _ _ c.self.invariant (rw (← c.deref.ensures.value) c.last.ensures.value))
