use Rattle.std.proofs.Common.{◌≡◌, true≢false, sym, refl, ◌∙◌}
use Rattle.version_rules.specs.declared.needs.Need.{Need}
use Rattle.version_rules.specs.Meets.{Meets}
use Rattle.dep_solver.proofs.EachLemmas.{each_all, each_more, read_inside}
use Rattle.dep_solver.proofs.ListLemmas.{nowhere}
use Rattle.dep_solver.proofs.candidates.are_needs_met.Goals as goal

pub loop-need-init : goal.loop-need-init
loop-need-init c = λ x h. absurd (nowhere x h)

pub loop-need-preserved : goal.loop-need-preserved
loop-need-preserved c =
    each_more (λ (need : Need). need.name ≡ c.args.name.now → Meets c.args.version.now need.constraint) c.args.needs.now c.loop-need.need-index c.need-item.result
    c.loop-need-test.true c.need-item.is c.loop-need.invariant (c.is_need_met.ensures.0 c.if-not-is_need_met.false)

pub returns-then-not-is_need_met : goal.returns-then-not-is_need_met
returns-then-not-is_need_met c = (
  λ h. absurd (true≢false (sym h)),
  λ all. absurd (true≢false (sym (c.is_need_met.ensures.1 (all c.need-item.result (read_inside c.args.needs.now c.loop-need.need-index c.need-item.result c.loop-need-test.true c.need-item.is))) ∙ c.if-not-is_need_met.true)),
)

pub returns : goal.returns
returns c = (λ _. each_all (λ (need : Need). need.name ≡ c.args.name.now → Meets c.args.version.now need.constraint) c.args.needs.now c.loop-need.need-index c.loop-need-test.false c.loop-need.invariant, λ _. refl)
