use Rattle.std.proofs.Common.{◌≡◌, ◌∙◌, not, bytes_eq, rules, sym, ap, subst}
use Rattle.std.proofs.lemmas.Fn.{filter_same}
use Rattle.std.proofs.lemmas.List.Kept.{IsStrictlySortedBy-filter}
use Rattle.doc_tree.specs.Text.{text_cmp}
use Rattle.membership.specs.TextSets.{IsRising, without}
use Rattle.membership.proofs.text_set.TextSet.take_out.Goals as goal

pub invariant_of-self : goal.invariant_of-self
invariant_of-self c =
    let left : c.retain.new.self.items ≡ without c.args.text.now c.self.inside.items.items = filter_same _ _ _ (λ x b f' k. search rules) _ _ c.retain.ensures.filtered in
    subst IsRising (sym left) (IsStrictlySortedBy-filter text_cmp (λ other. not (bytes_eq c.args.text.now other)) c.self.inside.items.items c.self.invariant)

pub returns : goal.returns
returns c =
    let left : c.retain.new.self.items ≡ without c.args.text.now c.self.inside.items.items = filter_same _ _ _ (λ x b f' k. search rules) _ _ c.retain.ensures.filtered in
    left ∙ ap (without c.args.text.now) c.self.view_is
