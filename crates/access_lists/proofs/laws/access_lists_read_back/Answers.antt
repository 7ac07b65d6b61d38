use Rattle.access_lists.proofs.FormsLemmas.{acl_back}
use Rattle.access_lists.proofs.laws.access_lists_read_back.Goals as goal

pub returns : goal.returns
returns c = acl_back
