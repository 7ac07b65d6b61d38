use Rattle.std.proofs.Common.{sym, subst}
use Rattle.sandboxes.specs.Sandboxes.{AreNamed}
use Rattle.sandboxes.proofs.MapLemmas.{seen}
use Rattle.sandboxes.proofs.StockLemmas.{AreNamed-insert}
use Rattle.sandboxes.proofs.part.Part.lay_file.Goals as goal

pub invariant_of-self : goal.invariant_of-self
invariant_of-self c =
    subst AreNamed (sym c.put.ensures.entries)
    (AreNamed-insert (seen c.self.inside.files.entries) c.digest-sum.result (record { file = c.args.file; committed = c.args.committed }) (sym c.digest-sum.ensures) c.self.invariant)
