use Rattle.resource_core.proofs.GraphLemmas.{no_cycle}
use Rattle.resource_core.proofs.laws.depths_rule_out_cycles.Goals as goal

pub returns : goal.returns
returns c = no_cycle
