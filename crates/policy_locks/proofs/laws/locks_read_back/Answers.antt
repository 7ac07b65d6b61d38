use Rattle.policy_locks.proofs.LockLemmas.{locks_again}
use Rattle.policy_locks.proofs.laws.locks_read_back.Goals as goal

pub returns : goal.returns
returns c = locks_again c.run_lists_read_back.ensures.one c.run_lists_read_back.ensures.named
