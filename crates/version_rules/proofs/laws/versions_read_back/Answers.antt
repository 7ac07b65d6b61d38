use Rattle.version_rules.proofs.ReadBack.{versions_read_back}
use Rattle.version_rules.proofs.laws.versions_read_back.Goals as goal

pub returns : goal.returns
returns c = versions_read_back
