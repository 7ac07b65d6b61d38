-- The entries of the shelves are those that are kept.
use Rattle.std.proofs.Common.{ap, map, ◌∙◌}
use Rattle.shelves.specs.SortedMap.{map_of}
use Rattle.shelves.proofs.ShelfLemmas.{entries-store, filled-store}
use Rattle.shelves.proofs.shelves.Shelves.shelves.Goals as goal

pub returns-clause-shelves : goal.returns-clause-shelves
returns-clause-shelves g c =
    rw (← c.self.view_is) (ap (map (λ e. (e.0, map_of g.K.Ord.cmp e.1))) c.deref.ensures.value ∙ entries-store g.K.Ord.cmp g.met.K.Ord.total c.self.inside.shelves.items c.self.invariant.shelves)

pub returns-clause-filled : goal.returns-clause-filled
returns-clause-filled g c = rw (← c.self.view_is) (filled-store g.K.Ord.cmp g.met.K.Ord.total c.self.inside.shelves.items c.self.invariant.shelves)
