use Rattle.std.proofs.Common.{◌≡◌, not, is_some, bytes_eq, sym, ap, subst, ◌∙◌, rules}
use Rattle.std.proofs.lemmas.List.{take_all}
use Rattle.sandboxes.proofs.SumsLemmas.{filtered_kept, filtered_dropped}
use Rattle.std.proofs.lemmas.List.Kept.{IsStrictlySortedBy-filter}
use Rattle.indexmap.specs.IndexMap.{get}
use Rattle.sandboxes.specs.Sums.{Sums, IsRising}
use Rattle.std.specs.List.{filter}
use Rattle.doc_tree.specs.Text.{text_cmp}
use Rattle.sandboxes.proofs.sums.Sums.without.Goals as goal
use Rattle.sandboxes.proofs.sums.Sums.without.Goals.{then-not-contains_key+in_ok-push, else-not-contains_key}

pub loop-sum-preserved : goal.loop-sum-preserved
loop-sum-preserved c =
    elim c.if-not-contains_key.branch [
      | then-not-contains_key+in_ok-push w ↦
          filtered_kept (λ sum. not (is_some (get bytes_eq c.args.files.now sum))) c.deref-sum-items.result.now c.loop-sum.items.items c.if-not-contains_key.items.items
          c.loop-sum.sum-index c.sum-item.result c.loop-sum-test.true c.sum-item.is c.loop-sum.invariant (search rules) (search rules)
      | else-not-contains_key w ↦
          filtered_dropped (λ sum. not (is_some (get bytes_eq c.args.files.now sum))) c.deref-sum-items.result.now c.loop-sum.items.items c.if-not-contains_key.items.items
          c.loop-sum.sum-index c.sum-item.result c.loop-sum-test.true c.sum-item.is c.loop-sum.invariant (search rules) (search rules)
    ]

pub invariant_of-result : goal.invariant_of-result
invariant_of-result c =
    let rising = IsStrictlySortedBy-filter text_cmp (λ sum. not (is_some (get bytes_eq c.args.files.now sum))) c.self.inside.items.items c.self.invariant in
    let whole : c.loop-sum.items.items ≡ filter (λ sum. not (is_some (get bytes_eq c.args.files.now sum))) c.self.inside.items.items =
    c.loop-sum.invariant
    ∙ ap (λ (sums : Sums). filter (λ sum. not (is_some (get bytes_eq c.args.files.now sum))) sums)
    (take_all c.loop-sum.sum-index c.deref-sum-items.result.now c.loop-sum-test.false ∙ c.deref-sum-items.ensures.value) in
    subst IsRising (sym whole) rising
