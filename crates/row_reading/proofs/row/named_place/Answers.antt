-- The row of a place that a name says is of that place.
use Rattle.row_reading.proofs.NameLemmas.{own_ok}
use Rattle.row_reading.proofs.row.named_place.Goals as goal

pub returns-clause-own : goal.returns-clause-own
returns-clause-own c = own_ok c.args.kind _ c.place_in.result c.place_in.ensures
