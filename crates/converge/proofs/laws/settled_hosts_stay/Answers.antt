use Rattle.converge.proofs.SettledLemmas.{settled_stays}
use Rattle.converge.proofs.laws.settled_hosts_stay.Goals as goal

pub returns : goal.returns
returns c = settled_stays
