use Rattle.std.proofs.Common.{◌≡◌, List, subst, Contains, true≢false, sym, refl, ◌∙◌}
use Rattle.version_rules.specs.declared.needs.Need.{Need}
use Rattle.version_rules.specs.Meets.{Meets}
use Rattle.dep_solver.specs.declared.search.Place.{Place}
use Rattle.dep_solver.proofs.EachLemmas.{each_all, each_more, read_inside}
use Rattle.dep_solver.proofs.ListLemmas.{nowhere}
use Rattle.dep_solver.proofs.candidates.are_places_met.Goals as goal

pub loop-place-init : goal.loop-place-init
loop-place-init c = λ x h. absurd (nowhere x h)

pub loop-place-preserved : goal.loop-place-preserved
loop-place-preserved c =
    each_more (λ (place : Place). (need : Need) → Contains place.release.now.needs need → need.name ≡ c.args.name.now → Meets c.args.version.now need.constraint) c.args.places.now c.loop-place.place-index c.place-item.result
    c.loop-place-test.true c.place-item.is c.loop-place.invariant (subst (λ (ns : List Need). (need : Need) → Contains ns need → need.name ≡ c.args.name.now → Meets c.args.version.now need.constraint) c.as_slice.ensures (c.are_needs_met.ensures.0 c.if-not-are_needs_met.false))

pub returns-then-not-are_needs_met : goal.returns-then-not-are_needs_met
returns-then-not-are_needs_met c = (
  λ h. absurd (true≢false (sym h)),
  λ all. absurd (true≢false (sym (c.are_needs_met.ensures.1 (subst (λ (ns : List Need). (need : Need) → Contains ns need → need.name ≡ c.args.name.now → Meets c.args.version.now need.constraint) (sym c.as_slice.ensures)
      (all c.place-item.result (read_inside c.args.places.now c.loop-place.place-index c.place-item.result c.loop-place-test.true c.place-item.is)))) ∙ c.if-not-are_needs_met.true)),
)

pub returns : goal.returns
returns c = (λ _. each_all (λ (place : Place). (need : Need) → Contains place.release.now.needs need → need.name ≡ c.args.name.now → Meets c.args.version.now need.constraint) c.args.places.now c.loop-place.place-index c.loop-place-test.false c.loop-place.invariant, λ _. refl)
