use Rattle.host_acts.proofs.KeptLemmas.{updates_keep}
use Rattle.host_acts.proofs.laws.updates_keep_what_suits.Goals as goal

pub returns : goal.returns
returns c = updates_keep
