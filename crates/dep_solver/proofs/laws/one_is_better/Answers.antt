use Rattle.dep_solver.proofs.LawLemmas.{one_better}
use Rattle.dep_solver.proofs.laws.one_is_better.Goals as goal

pub returns : goal.returns
returns c = one_better
