use Rattle.std.proofs.Common.{◌≡◌, ℕ, false, true≢false, sym, refl, ◌∙◌, length}
use Rattle.std.proofs.lemmas.Option.{slice_get_read}
use Rattle.dep_solver.specs.declared.universe.Release.{Release}
use Rattle.dep_solver.specs.Search.{IsChoosable, is_set}
use Rattle.dep_solver.proofs.CandidateLemmas.{can_meet, cannot_meet}
use Rattle.dep_solver.proofs.EachLemmas.{none_all, none_more, none_yet}
use Rattle.dep_solver.proofs.candidates.has_version.Goals as goal

pub loop-index-init : goal.loop-index-init
loop-index-init c = none_yet (λ (k : ℕ) (r : Release). (is_set c.flags_in-flags.result.now k ≡ false) × IsChoosable c.args.rules.now c.args.roots.now c.args.need.now r.version) c.releases_in-releases.result.now

pub loop-index-preserved : goal.loop-index-preserved
loop-index-preserved c =
    none_more (λ (k : ℕ) (r : Release). (is_set c.flags_in-flags.result.now k ≡ false) × IsChoosable c.args.rules.now c.args.roots.now c.args.need.now r.version) c.releases_in-releases.result.now c.loop-index.index _
    c.loop-index-test.true c.index-releases-index.is c.loop-index.invariant (λ h. true≢false (sym (c.is_open.ensures.1 h) ∙ c.if-is_open.false))

pub returns-then-is_open : goal.returns-then-is_open
returns-then-is_open c = (
  λ _. can_meet c.args.universe.now c.args.rules.now c.args.roots.now c.args.dead.now c.args.need.now c.releases_in-releases.result.now c.flags_in-flags.result.now c.loop-index.index _ c.releases_in-releases.ensures c.flags_in-flags.ensures
      (slice_get_read c.releases_in-releases.result.now (length c.releases_in-releases.result.now) c.loop-index.index _ refl c.loop-index-test.true c.index-releases-index.is) (c.is_open.ensures.0 c.if-is_open.true),
  λ _. refl,
)

pub returns : goal.returns
returns c = (
  λ h. absurd (true≢false (sym h)),
  λ can. absurd (cannot_meet c.args.universe.now c.args.rules.now c.args.roots.now c.args.dead.now c.args.need.now c.releases_in-releases.result.now c.flags_in-flags.result.now c.releases_in-releases.ensures c.flags_in-flags.ensures
      (none_all (λ (k : ℕ) (r : Release). (is_set c.flags_in-flags.result.now k ≡ false) × IsChoosable c.args.rules.now c.args.roots.now c.args.need.now r.version) c.releases_in-releases.result.now c.loop-index.index c.loop-index-test.false c.loop-index.invariant) can),
)
