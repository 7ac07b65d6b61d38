use Rattle.membership.proofs.BelongingLemmas.{belonging_is_told}
use Rattle.membership.proofs.laws.belonging_is_decided.Goals as goal

pub returns : goal.returns
returns c = belonging_is_told
