use Rattle.object_finder.proofs.LawLemmas.{meeting_told}
use Rattle.object_finder.proofs.laws.meeting_is_told.Goals as goal

pub returns : goal.returns
returns c = meeting_told
