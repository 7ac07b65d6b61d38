use Rattle.org_shelves.proofs.KeepingLemmas.{keeps}
use Rattle.org_shelves.proofs.laws.sound_moves_keep.Goals as goal

pub returns : goal.returns
returns c = keeps
