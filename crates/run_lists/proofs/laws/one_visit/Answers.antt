use Rattle.run_lists.proofs.VisitLemmas.{one_list}
use Rattle.run_lists.proofs.laws.one_visit.Goals as goal

pub returns : goal.returns
returns c = one_list
