use Rattle.std.proofs.Common.{subst, sym}
use Rattle.host_tree.specs.Acts.{CanMake}
use Rattle.host_tree.specs.Faulty.{Faulty}
use Rattle.host_tree.proofs.faulty.FaultyHostHost.make_link.Goals as goal

pub make_link-requires-clause-fits : goal.make_link-requires-clause-fits
make_link-requires-clause-fits c = subst (λ (f : Faulty). CanMake f.host c.args.path.now) (sym c.self.view_is) c.requires.fits
