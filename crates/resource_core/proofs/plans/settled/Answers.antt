use Rattle.std.proofs.Common.{◌≡◌, IsTrue, length, subst, sym, ap, refl, ◌∙◌}
use Rattle.std.proofs.lemmas.List.{length-map}
use Rattle.resource_core.specs.Drafts.{titles}
use Rattle.resource_core.specs.Graph.{are_within}
use Rattle.resource_core.specs.Plans.{nexts, nexts_of}
use Rattle.resource_core.specs.Resources.{title_of}
use Rattle.resource_core.specs.Searching.{IsOrderOf}
use Rattle.resource_core.specs.Settling.{kept}
use Rattle.resource_core.specs.declared.depths.Order.TheVariants.{Depths, Cycles}
use Rattle.resource_core.proofs.GraphLemmas.{no_cycle}
use Rattle.resource_core.proofs.PlanLemmas.{cycles_named, fires_each, nexts_within}
use Rattle.resource_core.proofs.SoundLemmas.{own_sound, notified_sound}
use Rattle.resource_core.proofs.ToLemmas.{own_links_sound, notified_links_sound}
use Rattle.resource_core.proofs.plans.settled.Goals as goal

pub order_of-requires : goal.order_of-requires
order_of-requires c =
    let same : c.deref-2.result.now ≡ nexts c.args.fires.items = c.deref-2.ensures.value ∙ c.in_ok-nexts.ensures ∙ ap nexts c.deref.ensures.value in
    subst (λ ns. IsTrue (are_within (length ns) ns)) (sym same) (nexts_within c.args.resources.items c.args.fires.items c.requires)

pub invariant_of-result : goal.invariant_of-result
invariant_of-result c =
    let same : c.deref-2.result.now ≡ nexts c.args.fires.items = c.deref-2.ensures.value ∙ c.in_ok-nexts.ensures ∙ ap nexts c.deref.ensures.value in
    let order : IsOrderOf (nexts c.args.fires.items) (Depths c.in-Depths.depths) =
    subst (λ ns. IsOrderOf ns (Depths c.in-Depths.depths)) same (subst (λ o. IsOrderOf c.deref-2.result.now o) c.in-Depths.is c.in_ok-depths.ensures) in
    let each = fires_each c.args.resources.items c.args.fires.items c.requires in
    record {
      fires_each = each;
      depths_each = order.0 ∙ length-map c.args.fires.items nexts_of ∙ each;
      own_actions = own_sound c.args.resources.items c.args.fires.items c.requires;
      notified = notified_sound c.args.resources.items c.args.fires.items c.requires;
      own_links = own_links_sound c.args.resources.items c.args.fires.items c.requires;
      notified_links = notified_links_sound c.args.resources.items c.args.fires.items c.requires;
      falls = order.1;
    }

pub names_of-requires : goal.names_of-requires
names_of-requires c =
    let same : c.deref-2.result.now ≡ nexts c.args.fires.items = c.deref-2.ensures.value ∙ c.in_ok-nexts.ensures ∙ ap nexts c.deref.ensures.value in
    let order : IsOrderOf (nexts c.args.fires.items) (Cycles c.in-Cycles.cycles) =
    subst (λ ns. IsOrderOf ns (Cycles c.in-Cycles.cycles)) same (subst (λ o. IsOrderOf c.deref-2.result.now o) c.in-Cycles.is c.in_ok-depths.ensures) in
    ap length c.deref-in-Cycles.ensures.value ∙ sym (ap length c.deref-in-Cycles-2.ensures.value ∙ order.0 ∙ length-map c.args.fires.items nexts_of ∙ fires_each c.args.resources.items c.args.fires.items c.requires)

pub returns-in-Depths : goal.returns-in-Depths
returns-in-Depths c =
    let same : c.deref-2.result.now ≡ nexts c.args.fires.items = c.deref-2.ensures.value ∙ c.in_ok-nexts.ensures ∙ ap nexts c.deref.ensures.value in
    let order : IsOrderOf (nexts c.args.fires.items) (Depths c.in-Depths.depths) =
    subst (λ ns. IsOrderOf ns (Depths c.in-Depths.depths)) same (subst (λ o. IsOrderOf c.deref-2.result.now o) c.in-Depths.is c.in_ok-depths.ensures) in
    (refl, refl, no_cycle (nexts c.args.fires.items) c.in-Depths.depths.items order.1)

pub returns-in_ok-names_of-in-Cycles : goal.returns-in_ok-names_of-in-Cycles
returns-in_ok-names_of-in-Cycles c =
    let same : c.deref-2.result.now ≡ nexts c.args.fires.items = c.deref-2.ensures.value ∙ c.in_ok-nexts.ensures ∙ ap nexts c.deref.ensures.value in
    let order : IsOrderOf (nexts c.args.fires.items) (Cycles c.in-Cycles.cycles) =
    subst (λ ns. IsOrderOf ns (Cycles c.in-Cycles.cycles)) same (subst (λ o. IsOrderOf c.deref-2.result.now o) c.in-Cycles.is c.in_ok-depths.ensures) in
    cycles_named (nexts c.args.fires.items) c.in-Cycles.cycles.items (titles c.args.resources.items) c.in_ok-names_of-in-Cycles.field-0
    (length-map c.args.resources.items title_of ∙ sym (order.0 ∙ length-map c.args.fires.items nexts_of ∙ fires_each c.args.resources.items c.args.fires.items c.requires))
    order.0 order.1 order.2
    (c.in_ok-names_of-in-Cycles.ensures ∙ (λ i. kept (c.deref-in-Cycles-2.ensures.value i) (titles (c.deref-in-Cycles.ensures.value i))))
