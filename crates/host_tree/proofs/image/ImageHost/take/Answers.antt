use Rattle.std.proofs.Common.{sym, subst}
use Rattle.host_tree.specs.Entries.{IsHost}
use Rattle.host_tree.proofs.KeptLemmas.{kept-take, host-take}
use Rattle.host_tree.proofs.image.ImageHost.take.Goals as goal

pub invariant_of-self : goal.invariant_of-self
invariant_of-self c =
    subst IsHost (sym (kept-take c.self.inside.entries c.remove.new.self c.args.self.now c.args.path.now c.self.view_is c.remove.ensures.updates.0))
    (host-take c.args.path.now c.args.self.now (subst IsHost c.self.view_is c.self.invariant) c.requires)

pub returns : goal.returns
returns c = kept-take c.self.inside.entries c.remove.new.self c.args.self.now c.args.path.now c.self.view_is c.remove.ensures.updates.0
