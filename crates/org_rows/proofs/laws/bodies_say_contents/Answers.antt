use Rattle.org_rows.proofs.BackLemmas.{say}
use Rattle.org_rows.proofs.laws.bodies_say_contents.Goals as goal

pub returns : goal.returns
returns c = say
