use Rattle.std.proofs.Common.{sym, subst}
use Rattle.sandboxes.specs.Sandboxes.{AreNamed}
use Rattle.sandboxes.proofs.MapLemmas.{seen}
use Rattle.sandboxes.proofs.StockLemmas.{AreNamed-without}
use Rattle.sandboxes.proofs.part.Part.release.Goals as goal

pub invariant_of-self : goal.invariant_of-self
invariant_of-self c =
    subst AreNamed (sym c.drop_files.ensures.files) (AreNamed-without c.args.sums.now (seen c.self.inside.files.entries) c.self.invariant)
