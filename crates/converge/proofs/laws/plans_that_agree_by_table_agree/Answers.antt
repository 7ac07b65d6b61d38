use Rattle.converge.proofs.SettledLemmas.{plans_by_table_agree}
use Rattle.converge.proofs.laws.plans_that_agree_by_table_agree.Goals as goal

pub returns : goal.returns
returns c = plans_by_table_agree
