use Rattle.dep_solver.proofs.LawLemmas.{best_none_better}
use Rattle.dep_solver.proofs.laws.best_is_none_better.Goals as goal

pub returns : goal.returns
returns c = best_none_better
