use Rattle.std.proofs.Common.{◌≡◌, List, Contains, true≢false, sym, subst, ◌∙◌}
use Rattle.version_rules.specs.declared.needs.Need.{Need}
use Rattle.version_rules.specs.Meets.{Meets}
use Rattle.dep_solver.specs.declared.roots.Pin.{Pin}
use Rattle.dep_solver.proofs.candidates.is_allowed.Goals as goal

pub returns-then-not-are_pins_met : goal.returns-then-not-are_pins_met
returns-then-not-are_pins_met c = (
  λ h. absurd (true≢false (sym h)),
  λ all. absurd (true≢false (sym (c.are_pins_met.ensures.1 (subst (λ (ps : List Pin). (pin : Pin) → Contains ps pin → pin.name ≡ c.args.name.now → c.args.version.now ≡ pin.version) (sym c.as_slice.ensures) all.meets_pins)) ∙ c.if-not-are_pins_met.true)),
)

pub returns : goal.returns
returns c = (
  λ h. record {
    meets_pins = subst (λ (ps : List Pin). (pin : Pin) → Contains ps pin → pin.name ≡ c.args.name.now → c.args.version.now ≡ pin.version) c.as_slice.ensures (c.are_pins_met.ensures.0 c.if-not-are_pins_met.false);
    meets_rules = subst (λ (ns : List Need). (need : Need) → Contains ns need → need.name ≡ c.args.name.now → Meets c.args.version.now need.constraint) c.as_slice-2.ensures (c.are_needs_met.ensures.0 h);
  },
  λ all. c.are_needs_met.ensures.1 (subst (λ (ns : List Need). (need : Need) → Contains ns need → need.name ≡ c.args.name.now → Meets c.args.version.now need.constraint) (sym c.as_slice-2.ensures) all.meets_rules),
)
