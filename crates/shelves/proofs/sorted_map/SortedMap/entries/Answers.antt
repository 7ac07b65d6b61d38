-- The entries of the map are those that are kept.
use Rattle.std.proofs.Common.{sym, ◌∙◌}
use Rattle.shelves.proofs.MapLemmas.{entries_of}
use Rattle.shelves.proofs.sorted_map.SortedMap.entries.Goals as goal

pub returns-clause-entries : goal.returns-clause-entries
returns-clause-entries g c = rw (← c.self.view_is) (c.deref.ensures.value ∙ sym (entries_of g.K.Ord.cmp g.met.K.Ord.total _ c.self.invariant))

pub returns-clause-order : goal.returns-clause-order
returns-clause-order g c = rw (← c.self.view_is) c.self.invariant
