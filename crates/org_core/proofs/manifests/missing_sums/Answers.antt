-- The sums that aren't committed are left, in their order.
use Rattle.std.proofs.Common.{◌≡◌, ◌∙◌, not, rules, sym, ap, subst, filter}
use Rattle.std.proofs.lemmas.Fn.{filter_same}
use Rattle.std.proofs.lemmas.List.Kept.{IsStrictlySortedBy-filter}
use Rattle.doc_tree.specs.Text.{text_cmp}
use Rattle.sandboxes.specs.Files.{holding_of}
use Rattle.sandboxes.specs.Sums.{IsRising}
use Rattle.org_shelves.specs.Files.{is_committed}
use Rattle.org_core.proofs.ManifestsLemmas.{sums_are}
use Rattle.org_core.proofs.manifests.missing_sums.Goals as goal

pub in_order-requires : goal.in_order-requires
in_order-requires c =
    let left : c.retain.new.self.items ≡ filter (λ sum. not (is_committed (holding_of c.args.context.files.now c.args.context.org.now) sum)) c.into_vec-missing.result.items = filter_same _ _ _ (λ x b f' k. search rules) _ _ c.retain.ensures.filtered in
    subst IsRising (sym left)
    (IsStrictlySortedBy-filter text_cmp (λ sum. not (is_committed (holding_of c.args.context.files.now c.args.context.org.now) sum)) c.into_vec-missing.result.items (subst IsRising (sym c.into_vec-missing.ensures.value) c.into_vec-missing.ensures.rising))

pub returns : goal.returns
returns c =
    let left : c.retain.new.self.items ≡ filter (λ sum. not (is_committed (holding_of c.args.context.files.now c.args.context.org.now) sum)) c.into_vec-missing.result.items = filter_same _ _ _ (λ x b f' k. search rules) _ _ c.retain.ensures.filtered in
    c.in_order.ensures ∙ left ∙ ap (filter (λ sum. not (is_committed (holding_of c.args.context.files.now c.args.context.org.now) sum)))
    (c.into_vec-missing.ensures.value ∙ c.in_ok-copy.ensures ∙ sums_are c.sums.result.now c.args.edition.now c.sums.ensures.rising c.sums.ensures.members)
