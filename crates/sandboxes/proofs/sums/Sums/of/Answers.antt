use Rattle.std.proofs.Common.{bytes_eq, sym, ap, subst, ◌∙◌}
use Rattle.std.proofs.lemmas.List.Filters.{dedup_is}
use Rattle.sandboxes.specs.Sums.{IsRising, lists}
use Rattle.sandboxes.proofs.SumsLemmas.{lists-sorted, IsRising-sorted}
use Rattle.sandboxes.proofs.sums.Sums.of.Goals as goal

pub invariant_of-result : goal.invariant_of-result
invariant_of-result c =
    subst IsRising (sym (dedup_is bytes_eq c.sort_unstable.new.self.items c.dedup.new.self.items c.dedup.ensures.filtered))
    (IsRising-sorted c.sort_unstable.new.self.items c.sort_unstable.ensures.sorted)

pub returns : goal.returns
returns c = record {
  rising = invariant_of-result c;
  members = λ sum.
      ap (λ sums. lists sums sum) (dedup_is bytes_eq c.sort_unstable.new.self.items c.dedup.new.self.items c.dedup.ensures.filtered)
      ∙ lists-sorted c.args.items.items c.sort_unstable.new.self.items c.sort_unstable.ensures.permutation sum;
}
