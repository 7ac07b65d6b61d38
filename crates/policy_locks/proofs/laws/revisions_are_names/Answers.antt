use Rattle.policy_locks.proofs.LockLemmas.{revision_named}
use Rattle.policy_locks.proofs.laws.revisions_are_names.Goals as goal

pub returns : goal.returns
returns c = revision_named
