use Rattle.std.proofs.Common.{sym, ap, subst, ◌∙◌}
use Rattle.std.proofs.lemmas.List.Filters.{dedup_is}
use Rattle.search_query.specs.Pair.{IsRising, lists, same_pair}
use Rattle.search_query.proofs.PairLemmas.{lists-sorted, IsRising-sorted}
use Rattle.search_query.proofs.pair.Pairs.of.Goals as goal

pub invariant_of-result : goal.invariant_of-result
invariant_of-result c =
    subst IsRising (sym (c.shrink_to_fit.ensures.items ∙ dedup_is same_pair c.sort_unstable.new.self.items c.dedup.new.self.items c.dedup.ensures.filtered))
    (IsRising-sorted c.sort_unstable.new.self.items c.sort_unstable.ensures.sorted)

pub returns-clause-rising : goal.returns-clause-rising
returns-clause-rising c = invariant_of-result c

pub returns-clause-members : goal.returns-clause-members
returns-clause-members c = λ p.
    ap (λ pairs. lists pairs p) (c.shrink_to_fit.ensures.items ∙ dedup_is same_pair c.sort_unstable.new.self.items c.dedup.new.self.items c.dedup.ensures.filtered)
    ∙ lists-sorted c.args.items.items c.sort_unstable.new.self.items c.sort_unstable.ensures.permutation p
