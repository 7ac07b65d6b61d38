use Rattle.std.proofs.Common.{true≢false, sym, refl, ◌∙◌}
use Rattle.version_rules.specs.declared.needs.Need.{Need}
use Rattle.dep_solver.specs.Search.{CanMeet}
use Rattle.dep_solver.proofs.EachLemmas.{each_all, each_more, read_inside}
use Rattle.dep_solver.proofs.ListLemmas.{nowhere}
use Rattle.dep_solver.proofs.candidates.can_be_met.Goals as goal

pub loop-need-init : goal.loop-need-init
loop-need-init c = λ x h. absurd (nowhere x h)

pub loop-need-preserved : goal.loop-need-preserved
loop-need-preserved c =
    each_more (λ (need : Need). CanMeet c.args.universe.now c.args.rules.now c.args.roots.now c.args.dead.now need) c.args.needs.now c.loop-need.need-index c.need-item.result
    c.loop-need-test.true c.need-item.is c.loop-need.invariant (c.has_version.ensures.0 c.if-not-has_version.false)

pub returns-then-not-has_version : goal.returns-then-not-has_version
returns-then-not-has_version c = (
  λ h. absurd (true≢false (sym h)),
  λ all. absurd (true≢false (sym (c.has_version.ensures.1 (all c.need-item.result (read_inside c.args.needs.now c.loop-need.need-index c.need-item.result c.loop-need-test.true c.need-item.is))) ∙ c.if-not-has_version.true)),
)

pub returns : goal.returns
returns c = (λ _. each_all (λ (need : Need). CanMeet c.args.universe.now c.args.rules.now c.args.roots.now c.args.dead.now need) c.args.needs.now c.loop-need.need-index c.loop-need-test.false c.loop-need.invariant, λ _. refl)
