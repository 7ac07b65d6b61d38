-- The map has as many keys as there are rows.
use Rattle.std.proofs.Common.{sym, ◌∙◌}
use Rattle.shelves.proofs.MapLemmas.{len_of}
use Rattle.outside_keeper.specs.Rows.{row_cmp, row_cmp_total}
use Rattle.outside_keeper.proofs.rows.Rows.len.Goals as goal

pub returns : goal.returns
returns c = rw (← c.self.view_is) (c.len.ensures ∙ c.self.inside.items.ok.0 ∙ sym (len_of row_cmp row_cmp_total _ c.self.invariant))
