-- There is no number.
use Rattle.ordered_keys.proofs.ItemLemmas.{none_stored}
use Rattle.ordered_keys.proofs.arranged.Arranged.none.Goals as goal

pub invariant_of-result : goal.invariant_of-result
invariant_of-result g c = none_stored c.new.result.items c.new-2.result.items c.new.ensures.items c.new-2.ensures.items
