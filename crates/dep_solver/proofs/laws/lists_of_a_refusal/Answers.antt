use Rattle.dep_solver.proofs.ChosenLemmas.{refusal_lists}
use Rattle.dep_solver.proofs.laws.lists_of_a_refusal.Goals as goal

pub returns : goal.returns
returns c = refusal_lists
