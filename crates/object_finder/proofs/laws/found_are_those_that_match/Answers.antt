use Rattle.object_finder.proofs.LawLemmas.{found_told}
use Rattle.object_finder.proofs.laws.found_are_those_that_match.Goals as goal

pub returns : goal.returns
returns c = found_told
