-- Without entries the map is empty.
use Rattle.std.proofs.Common.{ap, ◌∙◌}
use Rattle.std.specs.FinMap as finite
use Rattle.shelves.proofs.MapLemmas.{map_none}
use Rattle.shelves.proofs.sorted_map.SortedMap.new.Goals as goal

pub returns-clause-map : goal.returns-clause-map
returns-clause-map g c = ap (λ l. finite.from_sorted {R = g.K.Ord.cmp} l) c.new.ensures.items ∙ map_none g.K.Ord.cmp g.met.K.Ord.total
