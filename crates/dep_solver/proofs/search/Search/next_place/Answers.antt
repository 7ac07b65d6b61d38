use Rattle.std.proofs.Common.{◌-◌, length, arith, refl, ◌∙◌, ℕ}
use Rattle.std.proofs.lemmas.Option.{slice_get_read}
use Rattle.dep_solver.specs.Search.{Fits, GoesOn}
use Rattle.dep_solver.proofs.CandidateLemmas.{greatest_here, no_says, seen_long, tried_more, yes_says}
use Rattle.dep_solver.proofs.search.Search.next_place.Goals as goal

pub returns-then-branch-clause-place : goal.returns-then-branch-clause-place
returns-then-branch-clause-place c =
    greatest_here c.args.universe.now c.args.rules.now c.args.roots.now c.args.dead.now c.args.self.now.places.items c.args.name.now c.releases_in-releases.result.now _ c.args.self.now.given_up _ c.loop-tried.tried _
    c.loop-tried.invariant.0 c.loop-tried-test.true c.releases_in-releases.ensures c.index-releases-releases.is
    (yes_says (Fits c.args.universe.now c.args.rules.now c.args.roots.now c.args.dead.now c.args.self.now.places.items c.args.name.now c.index-releases-releases.result) _ c.in_ok-goes_on.field-0 c.if-branch.true c.in_ok-goes_on.ensures.goes) refl refl
    (c.len-reached.ensures ∙ c.args.self.now.names.ok.0 ∙ seen_long c.args.self.now.names.items)

pub loop-tried-preserved : goal.loop-tried-preserved
loop-tried-preserved c =
    let index : ℕ = length c.releases_in-releases.result.now - 1 - c.loop-tried.tried in (
      tried_more (GoesOn c.args.universe.now c.args.rules.now c.args.roots.now c.args.dead.now c.args.self.now.places.items c.args.name.now) c.releases_in-releases.result.now c.args.self.now.given_up c.loop-tried.tried index c.index-releases-releases.result
          c.loop-tried.invariant.0 (omega (arith, c.loop-tried-test.true))
          (slice_get_read c.releases_in-releases.result.now (length c.releases_in-releases.result.now) index c.index-releases-releases.result refl (omega (arith, c.loop-tried-test.true)) c.index-releases-releases.is)
          (no_says _ (¬ (GoesOn c.args.universe.now c.args.rules.now c.args.roots.now c.args.dead.now c.args.self.now.places.items c.args.name.now c.index-releases-releases.result)) c.in_ok-goes_on.field-0 c.if-branch.false c.in_ok-goes_on.ensures.goes),
      c.in_ok-goes_on.ensures.keeps,
    )
