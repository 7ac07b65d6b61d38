use Rattle.host_acts.proofs.SameLemmas.{acts_determined}
use Rattle.host_acts.proofs.laws.acts_are_determined.Goals as goal

pub returns : goal.returns
returns c = acts_determined
