use Rattle.host_tree.proofs.KeptLemmas.{host-empty}
use Rattle.host_tree.proofs.image.ImageHost.new.Goals as goal

pub invariant_of-result : goal.invariant_of-result
invariant_of-result c = host-empty c.new.result c.new.ensures.empty
