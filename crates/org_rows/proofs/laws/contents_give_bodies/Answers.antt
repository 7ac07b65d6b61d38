use Rattle.org_rows.proofs.BackLemmas.{gives}
use Rattle.org_rows.proofs.laws.contents_give_bodies.Goals as goal

pub returns : goal.returns
returns c = gives
