use Rattle.org_shelves.proofs.StayingLemmas.{stay}
use Rattle.org_shelves.proofs.laws.named_files_stay.Goals as goal

pub returns : goal.returns
returns c = stay
