use Rattle.knife_errands.proofs.CleanLemmas.{request_clean, target_clean}
use Rattle.knife_errands.proofs.laws.targets_are_clean.Goals as goal

pub returns : goal.returns
returns c = record { steps = λ step whom. request_clean step whom; places = λ whom names. target_clean whom names }
