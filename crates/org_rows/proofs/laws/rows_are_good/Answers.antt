use Rattle.org_rows.proofs.GoodLemmas.{rows_good}
use Rattle.org_rows.proofs.laws.rows_are_good.Goals as goal

pub returns : goal.returns
returns c = rows_good
