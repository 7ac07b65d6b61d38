use Rattle.host_tree.proofs.PathLemmas.{normal-prefix}
use Rattle.host_tree.proofs.paths.Path.prefix.Goals as goal

pub invariant_of-result : goal.invariant_of-result
invariant_of-result c = rw (c.in_ok-from_str.ensures, c.split_at.ensures.front, c.as_str.ensures.value) (normal-prefix c.self.inside.text c.args.end c.self.invariant (rw c.self.view_is c.requires))
