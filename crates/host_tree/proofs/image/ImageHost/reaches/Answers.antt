use Rattle.std.proofs.Common.{subst}
use Rattle.host_tree.specs.Entries.{IsHost}
use Rattle.host_tree.proofs.ImageLemmas.{parent-reached}
use Rattle.host_tree.proofs.image.ImageHost.reaches.Goals as goal

pub returns : goal.returns
returns c =
    rw (c.in_ok-answer.ensures, c.as_str.ensures.value)
    (parent-reached c.args.path.now c.args.self.now (subst IsHost c.self.view_is c.self.invariant) c.as_str.ensures.normal)
