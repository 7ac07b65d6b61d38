use Rattle.std.proofs.Common.{sym, subst}
use Rattle.host_tree.specs.Entries.{IsHost}
use Rattle.host_tree.proofs.EntryLemmas.{host-put}
use Rattle.host_tree.proofs.KeptLemmas.{kept-put}
use Rattle.host_tree.proofs.image.ImageHost.put.Goals as goal

pub invariant_of-self-2 : goal.invariant_of-self-2
invariant_of-self-2 c =
    subst IsHost (sym (kept-put c.self.inside.entries c.insert.new.self c.args.self.now c.in_ok-path.path c.args.path.now c.args.entry c.self.view_is c.in_ok-path.ensures c.in_ok-insert.ensures.updates.0))
    (host-put c.args.path.now c.args.entry c.args.self.now (subst IsHost c.self.view_is c.self.invariant) c.requires.normal c.requires.fits.0 c.requires.fits.1)

pub returns-clause-ok : goal.returns-clause-ok
returns-clause-ok c = kept-put c.self.inside.entries c.insert.new.self c.args.self.now c.in_ok-path.path c.args.path.now c.args.entry c.self.view_is c.in_ok-path.ensures c.in_ok-insert.ensures.updates.0
