-- Without rows the map is empty.
use Rattle.std.proofs.Common.{ap, ◌∙◌}
use Rattle.std.specs.FinMap as finite
use Rattle.shelves.proofs.MapLemmas.{map_none}
use Rattle.outside_keeper.specs.Rows.{row_cmp, row_cmp_total}
use Rattle.outside_keeper.proofs.rows.Rows.new.Goals as goal

pub returns : goal.returns
returns c = ap (λ l. finite.from_sorted {R = row_cmp} l) c.new.ensures.items ∙ map_none row_cmp row_cmp_total
