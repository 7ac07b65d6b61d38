use Rattle.host_acts.proofs.TableLemmas.{agreeing_by_table}
use Rattle.host_acts.proofs.laws.wants_that_agree_by_table_agree.Goals as goal

pub returns : goal.returns
returns c = agreeing_by_table
