use Rattle.dep_solver.proofs.TestLemmas.{tells_allowed}
use Rattle.dep_solver.proofs.laws.test_of_allowed.Goals as goal

pub returns : goal.returns
returns c = tells_allowed
