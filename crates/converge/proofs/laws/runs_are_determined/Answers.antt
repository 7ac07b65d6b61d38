use Rattle.converge.proofs.SameLemmas.{runs_determined}
use Rattle.converge.proofs.laws.runs_are_determined.Goals as goal

pub returns : goal.returns
returns c = runs_determined
