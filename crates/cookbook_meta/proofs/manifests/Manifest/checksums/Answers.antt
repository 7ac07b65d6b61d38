use Rattle.std.proofs.Common.{ap, subst, ◌∙◌, ◌↔◌, ℕ, List}
use Rattle.std.proofs.lemmas.List.Filters.{dedup_is}
use Rattle.std.specs.List.{Contains}
use Rattle.cookbook_meta.specs.Checksums as named
use Rattle.cookbook_meta.proofs.SumLemmas.{sums_rise, sums_stay}
use Rattle.cookbook_meta.proofs.manifests.Manifest.checksums.Goals as goal

pub returns-clause-order : goal.returns-clause-order
returns-clause-order c = sums_rise c.sort_unstable.new.self.items c.of.result c.sort_unstable.ensures.sorted (c.of.ensures ∙ dedup_is _ _ _ c.dedup.ensures.filtered)

pub returns-clause-each : goal.returns-clause-each
returns-clause-each c =
    let same = c.in_ok-sums.ensures ∙ ap named.checksums_of c.as_slice.ensures in
    subst (λ (sums : List (List ℕ)). (sum : List ℕ) → Contains c.of.result sum ↔ Contains sums sum) same
    (sums_stay c.in_ok-sums.sums.items c.sort_unstable.new.self.items c.of.result c.sort_unstable.ensures.permutation (c.of.ensures ∙ dedup_is _ _ _ c.dedup.ensures.filtered))
