use Rattle.std.proofs.Common.{◌≡◌, true≢false, sym, refl, ◌∙◌}
use Rattle.version_rules.specs.Meets.{Meets}
use Rattle.dep_solver.specs.declared.search.Place.{Place}
use Rattle.dep_solver.proofs.EachLemmas.{each_all, each_more, read_inside}
use Rattle.dep_solver.proofs.ListLemmas.{nowhere}
use Rattle.dep_solver.proofs.candidates.do_meet.Goals as goal

pub loop-place-init : goal.loop-place-init
loop-place-init c = λ x h. absurd (nowhere x h)

pub loop-place-preserved : goal.loop-place-preserved
loop-place-preserved c =
    each_more (λ (place : Place). place.name.now ≡ c.args.need.now.name → Meets place.release.now.version c.args.need.now.constraint) c.args.places.now c.loop-place.place-index c.place-item.result
    c.loop-place-test.true c.place-item.is c.loop-place.invariant (c.does_meet.ensures.0 c.if-not-does_meet.false)

pub returns-then-not-does_meet : goal.returns-then-not-does_meet
returns-then-not-does_meet c = (
  λ h. absurd (true≢false (sym h)),
  λ all. absurd (true≢false (sym (c.does_meet.ensures.1 (all c.place-item.result (read_inside c.args.places.now c.loop-place.place-index c.place-item.result c.loop-place-test.true c.place-item.is))) ∙ c.if-not-does_meet.true)),
)

pub returns : goal.returns
returns c = (λ _. each_all (λ (place : Place). place.name.now ≡ c.args.need.now.name → Meets place.release.now.version c.args.need.now.constraint) c.args.places.now c.loop-place.place-index c.loop-place-test.false c.loop-place.invariant, λ _. refl)
