use Rattle.org_rows.proofs.PlaceLemmas.{kinds_have}
use Rattle.org_rows.proofs.laws.kinds_have_words.Goals as goal

pub returns : goal.returns
returns c = kinds_have
