use Rattle.std.proofs.Common.{sym, ap, subst}
use Rattle.sandboxes.specs.Sandboxes.{AreNamed}
use Rattle.sandboxes.proofs.MapLemmas.{seen}
use Rattle.sandboxes.proofs.StockLemmas.{AreNamed-empty}
use Rattle.sandboxes.proofs.part.Part.none.Goals as goal

pub invariant_of-result : goal.invariant_of-result
invariant_of-result c = subst AreNamed (ap seen (sym c.new.ensures.empty)) AreNamed-empty
