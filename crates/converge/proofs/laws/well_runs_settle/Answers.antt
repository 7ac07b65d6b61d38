use Rattle.converge.proofs.SettledLemmas.{well_settles}
use Rattle.converge.proofs.laws.well_runs_settle.Goals as goal

pub returns : goal.returns
returns c = well_settles
