-- The items that the test keeps are left, in their order.
use Rattle.std.proofs.Common.{◌≡◌, ◌∙◌, rules, ap}
use Rattle.std.proofs.lemmas.Fn.{filter_same}
use Rattle.knife_errands.specs.RunLists as spec
use Rattle.knife_errands.proofs.node_run_lists.without.Goals as goal

pub returns : goal.returns
returns c =
    let left : c.retain.new.self.items ≡ spec.without c.args.item.now c.into_vec-items.result.items = filter_same _ _ _ (λ x b f' k. search rules) _ _ c.retain.ensures.filtered in
    c.of.ensures ∙ left ∙ ap (spec.without c.args.item.now) c.into_vec-items.ensures
