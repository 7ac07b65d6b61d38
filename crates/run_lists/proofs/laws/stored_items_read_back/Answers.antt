use Rattle.run_lists.proofs.StoredLemmas.{stored_reads_back}
use Rattle.run_lists.proofs.laws.stored_items_read_back.Goals as goal

pub returns : goal.returns
returns c = stored_reads_back
