use Rattle.std.specs.List.Sorted.{IsStrictlySortedBy}
use Rattle.std.proofs.Common.{sym, subst}
use Rattle.membership.specs.TextSets.{IsRising}
use Rattle.membership.proofs.text_set.TextSet.new.Goals as goal

pub invariant_of-result : goal.invariant_of-result
unfolding IsStrictlySortedBy
invariant_of-result c = subst IsRising (sym c.new.ensures.items) tt
