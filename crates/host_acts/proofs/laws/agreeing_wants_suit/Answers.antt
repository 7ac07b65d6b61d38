use Rattle.host_acts.proofs.KeptLemmas.{agreeing_suit}
use Rattle.host_acts.proofs.laws.agreeing_wants_suit.Goals as goal

pub returns : goal.returns
returns c = agreeing_suit
