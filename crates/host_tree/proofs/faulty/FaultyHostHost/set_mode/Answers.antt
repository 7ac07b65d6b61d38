use Rattle.std.proofs.Common.{subst, sym}
use Rattle.host_tree.specs.Acts.{CanSetMode}
use Rattle.host_tree.specs.Faulty.{Faulty}
use Rattle.host_tree.proofs.faulty.FaultyHostHost.set_mode.Goals as goal

pub set_mode-requires-clause-fits : goal.set_mode-requires-clause-fits
set_mode-requires-clause-fits c = subst (λ (f : Faulty). CanSetMode f.host c.args.path.now) (sym c.self.view_is) c.requires.fits
