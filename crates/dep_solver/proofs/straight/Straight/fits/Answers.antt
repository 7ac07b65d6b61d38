use Rattle.std.proofs.Common.{◌≡◌, List, Contains, true≢false, sym, subst, ◌∙◌}
use Rattle.version_rules.specs.declared.needs.Need.{Need}
use Rattle.version_rules.specs.Meets.{Meets}
use Rattle.dep_solver.specs.declared.roots.Pin.{Pin}
use Rattle.dep_solver.specs.declared.straight.Needed.{Needed}
use Rattle.dep_solver.specs.declared.straight.Taken.{Taken}
use Rattle.dep_solver.specs.Keys.{key_of}
use Rattle.dep_solver.specs.Search.{CanMeet}
use Rattle.dep_solver.proofs.MarkLemmas.{needed_from, needed_to, taken_from, taken_to}
use Rattle.dep_solver.proofs.straight.Straight.fits.Goals as goal

pub returns-then-not-are_pins_met : goal.returns-then-not-are_pins_met
returns-then-not-are_pins_met c = (
  λ h. absurd (true≢false (sym h)),
  λ fits. absurd (true≢false (sym (c.are_pins_met.ensures.1 (subst (λ (ps : List Pin). (pin : Pin) → Contains ps pin → pin.name ≡ c.args.name.now → c.args.release.now.version ≡ pin.version) (sym c.as_slice.ensures) fits.meets_pins)) ∙ c.if-not-are_pins_met.true)),
)

pub returns-then-not-are_needs_met : goal.returns-then-not-are_needs_met
returns-then-not-are_needs_met c = (
  λ h. absurd (true≢false (sym h)),
  λ fits. absurd (true≢false (sym (c.are_needs_met.ensures.1 (subst (λ (ns : List Need). (need : Need) → Contains ns need → need.name ≡ c.args.name.now → Meets c.args.release.now.version need.constraint) (sym c.as_slice-2.ensures) fits.meets_rules)) ∙ c.if-not-are_needs_met.true)),
)

pub are_needed_met-requires-clause-marks : goal.are_needed_met-requires-clause-marks
are_needed_met-requires-clause-marks c = subst (λ (ms : List Needed). (mark : Needed) → Contains ms mark → mark.key ≡ key_of mark.need.now.name) (sym c.as_slice-3.ensures.value) c.requires.marked.needed.good

pub returns-then-not-are_needed_met : goal.returns-then-not-are_needed_met
returns-then-not-are_needed_met c = (
  λ h. absurd (true≢false (sym h)),
  λ fits. absurd (true≢false (sym (c.are_needed_met.ensures.1 (subst (λ (ms : List Needed). (mark : Needed) → Contains ms mark → mark.need.now.name ≡ c.args.name.now → Meets c.args.release.now.version mark.need.now.constraint) (sym c.as_slice-3.ensures.value)
      (needed_to c.args.name.now c.args.release.now.version c.args.self.now.search.places.items c.args.self.now.needed.items c.requires.marked.needed fits.meets_places))) ∙ c.if-not-are_needed_met.true)),
)

pub returns-then-not-are_needs_met-2 : goal.returns-then-not-are_needs_met-2
returns-then-not-are_needs_met-2 c = (
  λ h. absurd (true≢false (sym h)),
  λ fits. absurd (true≢false (sym (c.are_needs_met-2.ensures.1 (subst (λ (ns : List Need). (need : Need) → Contains ns need → need.name ≡ c.args.name.now → Meets c.args.release.now.version need.constraint) (sym c.as_slice-needs.ensures) fits.meets_itself)) ∙ c.if-not-are_needs_met-2.true)),
)

pub do_taken_meet-requires : goal.do_taken_meet-requires
do_taken_meet-requires c = subst (λ (ms : List Taken). (mark : Taken) → Contains ms mark → mark.key ≡ key_of mark.place.name.now) (sym c.as_slice-4.ensures.value) c.requires.marked.taken.good

pub returns-then-not-do_taken_meet : goal.returns-then-not-do_taken_meet
returns-then-not-do_taken_meet c = (
  λ h. absurd (true≢false (sym h)),
  λ fits. absurd (true≢false (sym (c.do_taken_meet.ensures.1 (taken_to c.args.self.now.search.places.items c.args.self.now.taken.items c.requires.marked.taken c.args.release.now.needs c.as_slice-needs.result.now c.as_slice-needs.ensures c.as_slice-4.result.now c.as_slice-4.ensures.value fits.places_meet)) ∙ c.if-not-do_taken_meet.true)),
)

pub returns : goal.returns
returns c = (
  λ h. record {
    meets_pins = subst (λ (ps : List Pin). (pin : Pin) → Contains ps pin → pin.name ≡ c.args.name.now → c.args.release.now.version ≡ pin.version) c.as_slice.ensures (c.are_pins_met.ensures.0 c.if-not-are_pins_met.false);
    meets_rules = subst (λ (ns : List Need). (need : Need) → Contains ns need → need.name ≡ c.args.name.now → Meets c.args.release.now.version need.constraint) c.as_slice-2.ensures (c.are_needs_met.ensures.0 c.if-not-are_needs_met.false);
    meets_places = needed_from c.args.name.now c.args.release.now.version c.args.self.now.search.places.items c.args.self.now.needed.items c.requires.marked.needed
        (subst (λ (ms : List Needed). (mark : Needed) → Contains ms mark → mark.need.now.name ≡ c.args.name.now → Meets c.args.release.now.version mark.need.now.constraint) c.as_slice-3.ensures.value (c.are_needed_met.ensures.0 c.if-not-are_needed_met.false));
    meets_itself = subst (λ (ns : List Need). (need : Need) → Contains ns need → need.name ≡ c.args.name.now → Meets c.args.release.now.version need.constraint) c.as_slice-needs.ensures (c.are_needs_met-2.ensures.0 c.if-not-are_needs_met-2.false);
    places_meet = taken_from c.args.self.now.search.places.items c.args.self.now.taken.items c.requires.marked.taken c.args.release.now.needs c.as_slice-needs.result.now c.as_slice-needs.ensures c.as_slice-4.result.now c.as_slice-4.ensures.value
        (c.do_taken_meet.ensures.0 c.if-not-do_taken_meet.false);
    needs_can_be_met = subst (λ (ns : List Need). (need : Need) → Contains ns need → CanMeet c.args.universe.now c.args.rules.now c.args.roots.now c.args.dead.now need) c.as_slice-needs.ensures (c.can_be_met.ensures.0 h);
  },
  λ fits. c.can_be_met.ensures.1 (subst (λ (ns : List Need). (need : Need) → Contains ns need → CanMeet c.args.universe.now c.args.rules.now c.args.roots.now c.args.dead.now need) (sym c.as_slice-needs.ensures) fits.needs_can_be_met),
)
