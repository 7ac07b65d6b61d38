use Rattle.std.proofs.Common.{◌≡◌, List, Contains, true≢false, sym, subst, ◌∙◌}
use Rattle.version_rules.specs.declared.needs.Need.{Need}
use Rattle.version_rules.specs.Meets.{Meets}
use Rattle.dep_solver.specs.declared.roots.Pin.{Pin}
use Rattle.dep_solver.specs.declared.search.Place.{Place}
use Rattle.dep_solver.specs.Search.{CanMeet}
use Rattle.dep_solver.proofs.candidates.fits.Goals as goal

pub returns-then-not-are_pins_met : goal.returns-then-not-are_pins_met
returns-then-not-are_pins_met c = (
  λ h. absurd (true≢false (sym h)),
  λ fits. absurd (true≢false (sym (c.are_pins_met.ensures.1 (subst (λ (ps : List Pin). (pin : Pin) → Contains ps pin → pin.name ≡ c.args.name.now → c.args.release.now.version ≡ pin.version) (sym c.as_slice.ensures) fits.meets_pins)) ∙ c.if-not-are_pins_met.true)),
)

pub returns-then-not-are_needs_met : goal.returns-then-not-are_needs_met
returns-then-not-are_needs_met c = (
  λ h. absurd (true≢false (sym h)),
  λ fits. absurd (true≢false (sym (c.are_needs_met.ensures.1 (subst (λ (ns : List Need). (need : Need) → Contains ns need → need.name ≡ c.args.name.now → Meets c.args.release.now.version need.constraint) (sym c.as_slice-2.ensures) fits.meets_rules)) ∙ c.if-not-are_needs_met.true)),
)

pub returns-then-not-are_places_met : goal.returns-then-not-are_places_met
returns-then-not-are_places_met c = (
  λ h. absurd (true≢false (sym h)),
  λ fits. absurd (true≢false (sym (c.are_places_met.ensures.1 fits.meets_places) ∙ c.if-not-are_places_met.true)),
)

pub returns-then-not-are_needs_met-2 : goal.returns-then-not-are_needs_met-2
returns-then-not-are_needs_met-2 c = (
  λ h. absurd (true≢false (sym h)),
  λ fits. absurd (true≢false (sym (c.are_needs_met-2.ensures.1 (subst (λ (ns : List Need). (need : Need) → Contains ns need → need.name ≡ c.args.name.now → Meets c.args.release.now.version need.constraint) (sym c.as_slice-needs.ensures) fits.meets_itself)) ∙ c.if-not-are_needs_met-2.true)),
)

pub returns-then-not-do_places_meet : goal.returns-then-not-do_places_meet
returns-then-not-do_places_meet c = (
  λ h. absurd (true≢false (sym h)),
  λ fits. absurd (true≢false (sym (c.do_places_meet.ensures.1 (subst (λ (ns : List Need). (need : Need) → Contains ns need → (place : Place) → Contains c.args.places.now place → place.name.now ≡ need.name → Meets place.release.now.version need.constraint) (sym c.as_slice-needs.ensures) fits.places_meet)) ∙ c.if-not-do_places_meet.true)),
)

pub returns : goal.returns
returns c = (
  λ h. record {
    meets_pins = subst (λ (ps : List Pin). (pin : Pin) → Contains ps pin → pin.name ≡ c.args.name.now → c.args.release.now.version ≡ pin.version) c.as_slice.ensures (c.are_pins_met.ensures.0 c.if-not-are_pins_met.false);
    meets_rules = subst (λ (ns : List Need). (need : Need) → Contains ns need → need.name ≡ c.args.name.now → Meets c.args.release.now.version need.constraint) c.as_slice-2.ensures (c.are_needs_met.ensures.0 c.if-not-are_needs_met.false);
    meets_places = c.are_places_met.ensures.0 c.if-not-are_places_met.false;
    meets_itself = subst (λ (ns : List Need). (need : Need) → Contains ns need → need.name ≡ c.args.name.now → Meets c.args.release.now.version need.constraint) c.as_slice-needs.ensures (c.are_needs_met-2.ensures.0 c.if-not-are_needs_met-2.false);
    places_meet = subst (λ (ns : List Need). (need : Need) → Contains ns need → (place : Place) → Contains c.args.places.now place → place.name.now ≡ need.name → Meets place.release.now.version need.constraint) c.as_slice-needs.ensures (c.do_places_meet.ensures.0 c.if-not-do_places_meet.false);
    needs_can_be_met = subst (λ (ns : List Need). (need : Need) → Contains ns need → CanMeet c.args.universe.now c.args.rules.now c.args.roots.now c.args.dead.now need) c.as_slice-needs.ensures (c.can_be_met.ensures.0 h);
  },
  λ fits. c.can_be_met.ensures.1 (subst (λ (ns : List Need). (need : Need) → Contains ns need → CanMeet c.args.universe.now c.args.rules.now c.args.roots.now c.args.dead.now need) (sym c.as_slice-needs.ensures) fits.needs_can_be_met),
)
