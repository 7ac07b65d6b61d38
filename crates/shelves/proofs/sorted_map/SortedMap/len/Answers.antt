-- The map has as many keys as there are entries.
use Rattle.std.proofs.Common.{sym, ◌∙◌}
use Rattle.shelves.proofs.MapLemmas.{len_of}
use Rattle.shelves.proofs.sorted_map.SortedMap.len.Goals as goal

pub returns : goal.returns
returns g c = rw (← c.self.view_is) (c.len.ensures ∙ c.self.inside.items.ok.0 ∙ sym (len_of g.K.Ord.cmp g.met.K.Ord.total _ c.self.invariant))
