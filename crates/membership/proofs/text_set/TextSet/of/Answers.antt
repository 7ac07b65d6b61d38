use Rattle.std.proofs.Common.{bytes_eq, sym, subst}
use Rattle.std.proofs.lemmas.List.Filters.{dedup_is}
use Rattle.membership.specs.TextSets.{IsRising}
use Rattle.membership.proofs.TextSetLemmas.{IsRising-sorted, in_order-sorted}
use Rattle.membership.proofs.text_set.TextSet.of.Goals as goal

pub invariant_of-result : goal.invariant_of-result
invariant_of-result c =
    subst IsRising (sym (dedup_is bytes_eq c.sort_unstable.new.self.items c.dedup.new.self.items c.dedup.ensures.filtered))
    (IsRising-sorted c.sort_unstable.new.self.items c.sort_unstable.ensures.sorted)

pub returns : goal.returns
returns c = record {
  value =
      in_order-sorted c.args.items.items c.sort_unstable.new.self.items c.dedup.new.self.items c.sort_unstable.ensures.permutation c.sort_unstable.ensures.sorted
      (dedup_is bytes_eq c.sort_unstable.new.self.items c.dedup.new.self.items c.dedup.ensures.filtered);
  rising = invariant_of-result c;
}
