use Rattle.std.proofs.Common.{◌≡◌, [], map, ap, subst, sym, ◌∙◌}
use Rattle.std.proofs.lemmas.Result.{err_from_is_err_and}
use Rattle.resource_core.specs.Drafting.{given_with}
use Rattle.resource_core.specs.Drafts.{drafts}
use Rattle.resource_core.specs.Outcomes.{Fails}
use Rattle.resource_core.specs.Plans.{all_resources, given}
use Rattle.resource_core.specs.Titles.{pairs_by}
use Rattle.resource_core.proofs.PlanLemmas.{compiles, fails_drafts, fails_fires, given_same, refuses, resolves_both}
use Rattle.resource_core.proofs.plans.compile.Goals as goal

pub returns-in_err-drafts : goal.returns-in_err-drafts
returns-in_err-drafts c =
    let recipes = c.args.recipes.now in
    let attributes = c.args.merged.now.document in
    let all : map pairs_by c.deref-2.result.now ≡ all_resources recipes = ap (map pairs_by) c.deref-2.ensures.value ∙ c.in_ok-all.ensures in
    let read : given_with attributes c.in_ok-created.created ≡ given recipes attributes =
    given_same recipes attributes c.in_ok-created.created (map pairs_by c.deref.result.now) c.in_ok-created.ensures (ap (map pairs_by) c.deref.ensures.value ∙ c.in_ok-all.ensures) in
    let same : drafts (given_with attributes c.in_ok-created.created) (map pairs_by c.deref-2.result.now) [] ≡ drafts (given recipes attributes) (all_resources recipes) [] = (λ i. drafts (read i) (all i) []) in
    let p = err_from_is_err_and c.from_residual-in_err-drafts.result c.from_residual-in_err-drafts.ensures.1 in
    rw (p.1, p.2) (refuses recipes attributes _ (fails_drafts recipes attributes _ (subst (λ o. Fails c.in_err-drafts.field-0.0 o) same c.in_err-drafts.ensures.drafts)))

pub returns-in_err-fires : goal.returns-in_err-fires
returns-in_err-fires c =
    let recipes = c.args.recipes.now in
    let attributes = c.args.merged.now.document in
    let all : map pairs_by c.deref-2.result.now ≡ all_resources recipes = ap (map pairs_by) c.deref-2.ensures.value ∙ c.in_ok-all.ensures in
    let read : given_with attributes c.in_ok-created.created ≡ given recipes attributes =
    given_same recipes attributes c.in_ok-created.created (map pairs_by c.deref.result.now) c.in_ok-created.ensures (ap (map pairs_by) c.deref.ensures.value ∙ c.in_ok-all.ensures) in
    let same : drafts (given_with attributes c.in_ok-created.created) (map pairs_by c.deref-2.result.now) [] ≡ drafts (given recipes attributes) (all_resources recipes) [] = (λ i. drafts (read i) (all i) []) in
    let p = err_from_is_err_and c.from_residual-in_err-fires.result c.from_residual-in_err-fires.ensures.1 in
    rw (p.1, p.2) (refuses recipes attributes _ (fails_fires recipes attributes c.in_ok-drafts.drafts.resources.items _ (sym same ∙ c.in_ok-drafts.ensures.drafts) c.in_err-fires.ensures))

pub settled-requires : goal.settled-requires
settled-requires c =
    let recipes = c.args.recipes.now in
    let attributes = c.args.merged.now.document in
    let all : map pairs_by c.deref-2.result.now ≡ all_resources recipes = ap (map pairs_by) c.deref-2.ensures.value ∙ c.in_ok-all.ensures in
    let read : given_with attributes c.in_ok-created.created ≡ given recipes attributes =
    given_same recipes attributes c.in_ok-created.created (map pairs_by c.deref.result.now) c.in_ok-created.ensures (ap (map pairs_by) c.deref.ensures.value ∙ c.in_ok-all.ensures) in
    let same : drafts (given_with attributes c.in_ok-created.created) (map pairs_by c.deref-2.result.now) [] ≡ drafts (given recipes attributes) (all_resources recipes) [] = (λ i. drafts (read i) (all i) []) in
    record {
      recipes = recipes;
      attributes = attributes;
      resolves = resolves_both recipes attributes c.in_ok-drafts.drafts.resources.items c.in_ok-fires.fires.items (sym same ∙ c.in_ok-drafts.ensures.drafts) c.in_ok-fires.ensures;
    }

pub returns : goal.returns
returns c =
    let recipes = c.args.recipes.now in
    let attributes = c.args.merged.now.document in
    let all : map pairs_by c.deref-2.result.now ≡ all_resources recipes = ap (map pairs_by) c.deref-2.ensures.value ∙ c.in_ok-all.ensures in
    let read : given_with attributes c.in_ok-created.created ≡ given recipes attributes =
    given_same recipes attributes c.in_ok-created.created (map pairs_by c.deref.result.now) c.in_ok-created.ensures (ap (map pairs_by) c.deref.ensures.value ∙ c.in_ok-all.ensures) in
    let same : drafts (given_with attributes c.in_ok-created.created) (map pairs_by c.deref-2.result.now) [] ≡ drafts (given recipes attributes) (all_resources recipes) [] = (λ i. drafts (read i) (all i) []) in
    compiles recipes attributes c.in_ok-drafts.drafts.resources.items c.in_ok-fires.fires.items c.settled.result
    (resolves_both recipes attributes c.in_ok-drafts.drafts.resources.items c.in_ok-fires.fires.items (sym same ∙ c.in_ok-drafts.ensures.drafts) c.in_ok-fires.ensures) c.settled.ensures
