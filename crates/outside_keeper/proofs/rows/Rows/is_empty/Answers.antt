-- The map is empty where there are no rows.
use Rattle.shelves.proofs.MapLemmas.{empty_is}
use Rattle.outside_keeper.specs.Rows.{row_cmp, row_cmp_total}
use Rattle.outside_keeper.proofs.rows.Rows.is_empty.Goals as goal

pub returns : goal.returns
returns c = rw (← c.self.view_is) (empty_is row_cmp row_cmp_total _ _ _ c.self.invariant c.self.inside.items.ok.0 c.is_empty.ensures)
