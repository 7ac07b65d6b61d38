use Rattle.host_acts.proofs.KeptLemmas.{agreeing_by_path_suit}
use Rattle.host_acts.proofs.laws.wants_that_agree_by_path_suit.Goals as goal

pub returns : goal.returns
returns c = agreeing_by_path_suit
