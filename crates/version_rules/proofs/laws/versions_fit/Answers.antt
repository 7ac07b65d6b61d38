use Rattle.version_rules.proofs.FitLemmas.{fits_read}
use Rattle.version_rules.proofs.laws.versions_fit.Goals as goal

pub returns : goal.returns
returns c = fits_read
