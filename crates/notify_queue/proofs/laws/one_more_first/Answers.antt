-- The law is a lemma.
use Rattle.notify_queue.proofs.FirstsLemmas.{one_more_first}
use Rattle.notify_queue.proofs.laws.one_more_first.Goals as goal

pub returns : goal.returns
returns c = one_more_first
