use Rattle.std.proofs.Common.{true≢false, sym, refl, ◌∙◌}
use Rattle.dep_solver.specs.declared.universe.Release.{Release}
use Rattle.dep_solver.specs.Search.{MeetsAll}
use Rattle.dep_solver.proofs.CandidateLemmas.{as_allowed, none_allowed}
use Rattle.dep_solver.proofs.EachLemmas.{each_all, each_more, read_inside}
use Rattle.dep_solver.proofs.ListLemmas.{nowhere}
use Rattle.dep_solver.proofs.candidates.has_allowed.Goals as goal

pub loop-release-init : goal.loop-release-init
loop-release-init c = λ x h. absurd (nowhere x h)

pub loop-release-preserved : goal.loop-release-preserved
loop-release-preserved c =
    each_more (λ (r : Release). ¬ (MeetsAll c.args.rules.now c.args.roots.now c.args.name.now r.version)) c.releases_in-releases.result.now c.loop-release.release-index c.release-item.result
    c.loop-release-test.true c.release-item.is c.loop-release.invariant (λ h. true≢false (sym (c.is_allowed.ensures.1 h) ∙ c.if-is_allowed.false))

pub returns-then-is_allowed : goal.returns-then-is_allowed
returns-then-is_allowed c = (
  λ _. (
    c.release-item.result.version,
    as_allowed c.args.universe.now c.args.rules.now c.args.roots.now c.args.name.now c.releases_in-releases.result.now c.release-item.result c.releases_in-releases.ensures
        (read_inside c.releases_in-releases.result.now c.loop-release.release-index c.release-item.result c.loop-release-test.true c.release-item.is) (c.is_allowed.ensures.0 c.if-is_allowed.true),
  ),
  λ _. refl,
)

pub returns : goal.returns
returns c = (
  λ h. absurd (true≢false (sym h)),
  λ has. absurd (none_allowed c.args.universe.now c.args.rules.now c.args.roots.now c.args.name.now c.releases_in-releases.result.now c.releases_in-releases.ensures
      (each_all (λ (r : Release). ¬ (MeetsAll c.args.rules.now c.args.roots.now c.args.name.now r.version)) c.releases_in-releases.result.now c.loop-release.release-index c.loop-release-test.false c.loop-release.invariant) has.0 has.1),
)
