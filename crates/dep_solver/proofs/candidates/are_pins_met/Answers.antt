use Rattle.std.proofs.Common.{◌≡◌, true≢false, sym, refl, ◌∙◌}
use Rattle.dep_solver.specs.declared.roots.Pin.{Pin}
use Rattle.dep_solver.proofs.EachLemmas.{each_all, each_more, read_inside}
use Rattle.dep_solver.proofs.ListLemmas.{nowhere}
use Rattle.dep_solver.proofs.candidates.are_pins_met.Goals as goal

pub loop-pin-init : goal.loop-pin-init
loop-pin-init c = λ x h. absurd (nowhere x h)

pub loop-pin-preserved : goal.loop-pin-preserved
loop-pin-preserved c =
    each_more (λ (pin : Pin). pin.name ≡ c.args.name.now → c.args.version.now ≡ pin.version) c.args.pins.now c.loop-pin.pin-index c.pin-item.result
    c.loop-pin-test.true c.pin-item.is c.loop-pin.invariant (c.is_pin_met.ensures.0 c.if-not-is_pin_met.false)

pub returns-then-not-is_pin_met : goal.returns-then-not-is_pin_met
returns-then-not-is_pin_met c = (
  λ h. absurd (true≢false (sym h)),
  λ all. absurd (true≢false (sym (c.is_pin_met.ensures.1 (all c.pin-item.result (read_inside c.args.pins.now c.loop-pin.pin-index c.pin-item.result c.loop-pin-test.true c.pin-item.is))) ∙ c.if-not-is_pin_met.true)),
)

pub returns : goal.returns
returns c = (λ _. each_all (λ (pin : Pin). pin.name ≡ c.args.name.now → c.args.version.now ≡ pin.version) c.args.pins.now c.loop-pin.pin-index c.loop-pin-test.false c.loop-pin.invariant, λ _. refl)
