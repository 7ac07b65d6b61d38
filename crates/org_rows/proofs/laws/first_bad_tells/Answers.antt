use Rattle.org_rows.proofs.BadLemmas.{tells}
use Rattle.org_rows.proofs.laws.first_bad_tells.Goals as goal

pub returns : goal.returns
returns c = tells
