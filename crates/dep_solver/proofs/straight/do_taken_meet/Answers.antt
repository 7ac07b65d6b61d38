use Rattle.std.proofs.Common.{◌≡◌, Contains, true≢false, sym, refl, ◌∙◌}
use Rattle.version_rules.specs.declared.needs.Need.{Need}
use Rattle.version_rules.specs.Meets.{Meets}
use Rattle.dep_solver.specs.declared.straight.Taken.{Taken}
use Rattle.dep_solver.proofs.EachLemmas.{each_all, each_more, read_inside}
use Rattle.dep_solver.proofs.ListLemmas.{nowhere}
use Rattle.dep_solver.proofs.straight.do_taken_meet.Goals as goal

pub loop-need-init : goal.loop-need-init
loop-need-init c = λ x h. absurd (nowhere x h)

pub loop-need-preserved : goal.loop-need-preserved
loop-need-preserved c =
    each_more (λ (need : Need). (mark : Taken) → Contains c.args.taken.now mark → mark.place.name.now ≡ need.name → Meets mark.place.release.now.version need.constraint) c.args.needs.now c.loop-need.need-index c.need-item.result
    c.loop-need-test.true c.need-item.is c.loop-need.invariant (c.do_meet.ensures.0 c.if-not-do_meet.false)

pub returns-then-not-do_meet : goal.returns-then-not-do_meet
returns-then-not-do_meet c = (
  λ h. absurd (true≢false (sym h)),
  λ all. absurd (true≢false (sym (c.do_meet.ensures.1 (all c.need-item.result (read_inside c.args.needs.now c.loop-need.need-index c.need-item.result c.loop-need-test.true c.need-item.is))) ∙ c.if-not-do_meet.true)),
)

pub returns : goal.returns
returns c = (λ _. each_all (λ (need : Need). (mark : Taken) → Contains c.args.taken.now mark → mark.place.name.now ≡ need.name → Meets mark.place.release.now.version need.constraint) c.args.needs.now c.loop-need.need-index c.loop-need-test.false c.loop-need.invariant, λ _. refl)
