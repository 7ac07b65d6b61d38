use Rattle.org_shelves.proofs.FrozenLemmas.{frozen_stays}
use Rattle.org_shelves.proofs.laws.frozen_are_stored.Goals as goal

pub returns : goal.returns
returns c = frozen_stays
