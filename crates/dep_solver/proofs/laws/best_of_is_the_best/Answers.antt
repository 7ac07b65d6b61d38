use Rattle.dep_solver.proofs.ChosenLemmas.{best_of_best}
use Rattle.dep_solver.proofs.laws.best_of_is_the_best.Goals as goal

pub returns : goal.returns
returns c = best_of_best
