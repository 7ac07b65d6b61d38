use Rattle.std.proofs.Common.{◌≡◌, true≢false, sym, refl, ◌∙◌}
use Rattle.version_rules.specs.Meets.{Meets}
use Rattle.dep_solver.specs.declared.straight.Needed.{Needed}
use Rattle.dep_solver.proofs.EachLemmas.{each_all, each_more, read_inside}
use Rattle.dep_solver.proofs.ListLemmas.{nowhere}
use Rattle.dep_solver.proofs.straight.are_needed_met.Goals as goal

pub loop-mark-init : goal.loop-mark-init
loop-mark-init c = λ x h. absurd (nowhere x h)

pub is_needed_met-requires-clause-mark : goal.is_needed_met-requires-clause-mark
is_needed_met-requires-clause-mark c = c.requires.marks c.mark-item.result (read_inside c.args.needed.now c.loop-mark.mark-index c.mark-item.result c.loop-mark-test.true c.mark-item.is)

pub loop-mark-preserved : goal.loop-mark-preserved
loop-mark-preserved c =
    each_more (λ (mark : Needed). mark.need.now.name ≡ c.args.name.now → Meets c.args.version.now mark.need.now.constraint) c.args.needed.now c.loop-mark.mark-index c.mark-item.result
    c.loop-mark-test.true c.mark-item.is c.loop-mark.invariant (c.is_needed_met.ensures.0 c.if-not-is_needed_met.false)

pub returns-then-not-is_needed_met : goal.returns-then-not-is_needed_met
returns-then-not-is_needed_met c = (
  λ h. absurd (true≢false (sym h)),
  λ all. absurd (true≢false (sym (c.is_needed_met.ensures.1 (all c.mark-item.result (read_inside c.args.needed.now c.loop-mark.mark-index c.mark-item.result c.loop-mark-test.true c.mark-item.is))) ∙ c.if-not-is_needed_met.true)),
)

pub returns : goal.returns
returns c = (λ _. each_all (λ (mark : Needed). mark.need.now.name ≡ c.args.name.now → Meets c.args.version.now mark.need.now.constraint) c.args.needed.now c.loop-mark.mark-index c.loop-mark-test.false c.loop-mark.invariant, λ _. refl)
