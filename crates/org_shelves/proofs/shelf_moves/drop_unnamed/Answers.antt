-- What is left is rising, and it is what nothing names.
use Rattle.std.proofs.Common.{◌≡◌, ◌∙◌, not, rules, sym, ap, subst, List, ℕ}
use Rattle.std.proofs.lemmas.Fn.{filter_same}
use Rattle.std.proofs.lemmas.List.Kept.{IsStrictlySortedBy-filter}
use Rattle.doc_tree.specs.Text.{text_cmp}
use Rattle.sandboxes.specs.Files.{holding_of}
use Rattle.sandboxes.specs.Sandboxes.{released}
use Rattle.sandboxes.specs.Sums.{IsRising}
use Rattle.org_shelves.specs.ShelfMoves.{is_named, unnamed}
use Rattle.org_shelves.proofs.shelf_moves.drop_unnamed.Goals as goal

pub in_order-requires : goal.in_order-requires
in_order-requires c =
    let left : c.retain.new.self.items ≡ unnamed c.args.shelves.now.shelved c.into_vec-freed.result.items = filter_same _ _ _ (λ x b f' k. search rules) _ _ c.retain.ensures.filtered in
    subst IsRising (sym left)
    (IsStrictlySortedBy-filter text_cmp (λ sum. not (is_named c.args.shelves.now.shelved sum)) c.into_vec-freed.result.items (subst IsRising (sym c.into_vec-freed.ensures.value) c.into_vec-freed.ensures.rising))

pub returns-clause-holding : goal.returns-clause-holding
returns-clause-holding c =
    let left : c.retain.new.self.items ≡ unnamed c.args.shelves.now.shelved c.into_vec-freed.result.items = filter_same _ _ _ (λ x b f' k. search rules) _ _ c.retain.ensures.filtered in
    c.release-2.ensures.holding
    ∙ ap (λ sums. released sums (holding_of c.args.files.now c.args.org.now)) (c.in_order.ensures ∙ left ∙ ap (unnamed c.args.shelves.now.shelved) c.into_vec-freed.ensures.value)
