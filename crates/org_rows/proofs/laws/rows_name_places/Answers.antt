use Rattle.org_rows.proofs.PlaceLemmas.{rows_name}
use Rattle.org_rows.proofs.laws.rows_name_places.Goals as goal

pub returns : goal.returns
returns c = rows_name
