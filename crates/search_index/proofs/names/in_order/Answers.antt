-- Sorted names are the same names.
use Rattle.std.proofs.Common.{◌==◌, List, ℕ, sym, ap, subst, ◌∙◌}
use Rattle.std.proofs.lemmas.List.Filters.{dedup_is}
use Rattle.std.specs.Cmp.Lexicographic.{pointwise, slice_cmp}
use Rattle.std.specs.List.Sorted.{IsStrictlySortedBy}
use Rattle.std.specs.Ordering.{nat_cmp}
use Rattle.search_index.specs.Names.{lists_name}
use Rattle.search_index.proofs.NameLemmas.{lists-sorted, rising-sorted, same_test}
use Rattle.search_index.proofs.names.in_order.Goals as goal

pub returns-clause-rising : goal.returns-clause-rising
returns-clause-rising c =
    subst (λ (names : List (List ℕ)). IsStrictlySortedBy (slice_cmp nat_cmp) names) (sym (c.of.ensures ∙ dedup_is (pointwise ◌==◌) c.sort_unstable.new.self.items c.dedup.new.self.items c.dedup.ensures.filtered ∙ same_test c.sort_unstable.new.self.items))
    (rising-sorted c.sort_unstable.new.self.items c.sort_unstable.ensures.sorted)

pub returns-clause-members : goal.returns-clause-members
returns-clause-members c = λ name.
    ap (λ (names : List (List ℕ)). lists_name names name) (c.of.ensures ∙ dedup_is (pointwise ◌==◌) c.sort_unstable.new.self.items c.dedup.new.self.items c.dedup.ensures.filtered ∙ same_test c.sort_unstable.new.self.items)
    ∙ lists-sorted c.args.names.items c.sort_unstable.new.self.items c.sort_unstable.ensures.permutation name
