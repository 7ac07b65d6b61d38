use Rattle.access_lists.proofs.PermittedLemmas.{permission_decided}
use Rattle.access_lists.proofs.laws.permission_is_decided.Goals as goal

pub returns : goal.returns
returns c = permission_decided
