use Rattle.std.proofs.Common.{◌≡◌, ◌<◌, List, Bool, false, count_by, length, arith, subst, sym, ap, ◌∙◌}
use Rattle.std.specs.List.{list_any}
use Rattle.std.proofs.lemmas.List.{get_or_read}
use Rattle.resource_core.specs.Searching.{AreSearched}
use Rattle.resource_core.proofs.GraphLemmas.{counts_fall, flags_tell, longer, searched_more}
use Rattle.resource_core.proofs.depths.searched.Goals as goal

pub loop-place-preserved : goal.loop-place-preserved
loop-place-preserved c =
    let before = c.loop-place.invariant in
    let place = c.loop-place.place in
    let reach = c.in_ok-reached.ensures in
    let within : place < length c.in_ok-reached.reached.items = omega (arith, reach.flags_each) in (
      longer c.loop-place.cycles.items _ _ place c.in_ok-push.ensures.items before.0,
      longer c.loop-place.counts.items _ _ place c.in_ok-push-2.ensures.items before.1,
      searched_more c.args.nexts.now place _ _ _ _ c.in_ok-reached.reached.items _ _ before.0 before.1 c.in_ok-push.ensures.items c.in_ok-push-2.ensures.items reach
          (get_or_read c.in_ok-reached.reached.items place _ within c.index.ensures false)
          (c.count_set.ensures ∙ ap (λ (flags : List Bool). count_by (λ b. b) flags) c.deref.ensures.value) before.2,
    )

pub returns-then-is_any_set : goal.returns-then-is_any_set
returns-then-is_any_set c =
    let before = c.loop-place.invariant in
    let place = c.loop-place.place in
    let all : place ≡ length c.args.nexts.now = omega (arith, c.loop-place-test.false) in
    let searched = subst (λ n. AreSearched c.args.nexts.now n c.loop-place.cycles.items c.loop-place.counts.items) all before.2 in
    (before.0 ∙ all, flags_tell c.args.nexts.now _ _ searched, ap (λ flags. list_any (λ b. b) flags) (sym c.deref-2.ensures.value) ∙ sym c.is_any_set.ensures ∙ c.if-is_any_set.true)

pub returns-else-is_any_set : goal.returns-else-is_any_set
returns-else-is_any_set c =
    let before = c.loop-place.invariant in
    let place = c.loop-place.place in
    let all : place ≡ length c.args.nexts.now = omega (arith, c.loop-place-test.false) in
    let searched = subst (λ n. AreSearched c.args.nexts.now n c.loop-place.cycles.items c.loop-place.counts.items) all before.2 in (
      before.1 ∙ all,
      counts_fall c.args.nexts.now c.loop-place.cycles.items c.loop-place.counts.items c.requires searched
          (ap (λ flags. list_any (λ b. b) flags) (sym c.deref-2.ensures.value) ∙ sym c.is_any_set.ensures ∙ c.if-is_any_set.false),
    )
