use Rattle.std.proofs.Common.{arith}
use Rattle.version_rules.proofs.VersionLemmas.{version_of-four}
use Rattle.version_rules.proofs.versions.read_written.Goals as goal

pub returns-then-is_some-clause-version : goal.returns-then-is_some-clause-version
returns-then-is_some-clause-version c = grind (arith, version_of-four)
