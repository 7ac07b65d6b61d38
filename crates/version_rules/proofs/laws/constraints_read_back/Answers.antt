use Rattle.version_rules.proofs.ReadBack.{constraints_read_back}
use Rattle.version_rules.proofs.laws.constraints_read_back.Goals as goal

pub returns : goal.returns
returns c = constraints_read_back
