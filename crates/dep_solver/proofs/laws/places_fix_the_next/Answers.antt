use Rattle.dep_solver.proofs.LawLemmas.{places_fix}
use Rattle.dep_solver.proofs.laws.places_fix_the_next.Goals as goal

pub returns : goal.returns
returns c = places_fix
