use Rattle.std.specs.List.Sorted.{IsStrictlySortedBy}
use Rattle.std.proofs.Common.{sym, subst}
use Rattle.sandboxes.specs.Sums.{IsRising}
use Rattle.sandboxes.proofs.sums.Sums.new.Goals as goal

pub invariant_of-result : goal.invariant_of-result
unfolding IsStrictlySortedBy
invariant_of-result c = subst IsRising (sym c.new.ensures.items) tt
