use Rattle.org_rows.proofs.HeldLemmas.{are_of}
use Rattle.org_rows.proofs.laws.good_rows_are_of.Goals as goal

pub returns : goal.returns
returns c = are_of
