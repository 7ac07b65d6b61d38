use Rattle.dep_solver.proofs.LawLemmas.{have_walks}
use Rattle.dep_solver.proofs.laws.solutions_have_walks.Goals as goal

pub returns : goal.returns
returns c = have_walks
