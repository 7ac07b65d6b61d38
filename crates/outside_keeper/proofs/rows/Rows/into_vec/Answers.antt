-- The entries of the map are the rows that are held.
use Rattle.std.proofs.Common.{sym}
use Rattle.shelves.proofs.MapLemmas.{entries_of}
use Rattle.outside_keeper.specs.Rows.{row_cmp, row_cmp_total}
use Rattle.outside_keeper.proofs.rows.Rows.into_vec.Goals as goal

pub returns : goal.returns
returns c = rw (← c.self.view_is) (sym (entries_of row_cmp row_cmp_total _ c.self.invariant))
