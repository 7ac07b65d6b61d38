use Rattle.std.proofs.Common.{◌≡◌, true≢false, sym, refl, ◌∙◌}
use Rattle.version_rules.specs.Meets.{Meets}
use Rattle.dep_solver.specs.declared.straight.Taken.{Taken}
use Rattle.dep_solver.proofs.EachLemmas.{each_all, each_more, read_inside}
use Rattle.dep_solver.proofs.ListLemmas.{nowhere}
use Rattle.dep_solver.proofs.straight.do_meet.Goals as goal

pub loop-mark-init : goal.loop-mark-init
loop-mark-init c = λ x h. absurd (nowhere x h)

pub is_met-requires-clause-mark : goal.is_met-requires-clause-mark
is_met-requires-clause-mark c = c.requires c.mark-item.result (read_inside c.args.taken.now c.loop-mark.mark-index c.mark-item.result c.loop-mark-test.true c.mark-item.is)

pub loop-mark-preserved : goal.loop-mark-preserved
loop-mark-preserved c =
    each_more (λ (mark : Taken). mark.place.name.now ≡ c.args.need.now.name → Meets mark.place.release.now.version c.args.need.now.constraint) c.args.taken.now c.loop-mark.mark-index c.mark-item.result
    c.loop-mark-test.true c.mark-item.is c.loop-mark.invariant (c.is_met.ensures.0 c.if-not-is_met.false)

pub returns-then-not-is_met : goal.returns-then-not-is_met
returns-then-not-is_met c = (
  λ h. absurd (true≢false (sym h)),
  λ all. absurd (true≢false (sym (c.is_met.ensures.1 (all c.mark-item.result (read_inside c.args.taken.now c.loop-mark.mark-index c.mark-item.result c.loop-mark-test.true c.mark-item.is))) ∙ c.if-not-is_met.true)),
)

pub returns : goal.returns
returns c = (λ _. each_all (λ (mark : Taken). mark.place.name.now ≡ c.args.need.now.name → Meets mark.place.release.now.version c.args.need.now.constraint) c.args.taken.now c.loop-mark.mark-index c.loop-mark-test.false c.loop-mark.invariant, λ _. refl)
