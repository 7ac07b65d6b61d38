-- The number is that of the status with which the run ended.
use Rattle.chefsite.proofs.run_words.Goals as goal

pub returns : goal.returns
returns g c = record { status = c.run-status.result; number = c.exit_with.ensures; ran = c.run-status.ensures }
