use Rattle.std.proofs.Common.{◌-◌, length, arith, refl, true≢false, sym, ◌∙◌, ℕ}
use Rattle.std.proofs.lemmas.Option.{slice_get_read}
use Rattle.dep_solver.specs.Search.{GoesOn}
use Rattle.dep_solver.proofs.CandidateLemmas.{greatest_here, seen_long, tried_more, tried_none}
use Rattle.dep_solver.proofs.straight.Straight.greatest_place.Goals as goal

pub loop-tried-init : goal.loop-tried-init
loop-tried-init c = tried_none (GoesOn c.args.universe.now c.args.rules.now c.args.roots.now c.args.dead.now c.args.self.now.search.places.items c.args.name.now) c.releases_in-releases.result.now c.args.self.now.search.given_up

pub loop-tried-preserved : goal.loop-tried-preserved
loop-tried-preserved c =
    let index : ℕ = length c.releases_in-releases.result.now - 1 - c.loop-tried.tried in
    tried_more (GoesOn c.args.universe.now c.args.rules.now c.args.roots.now c.args.dead.now c.args.self.now.search.places.items c.args.name.now) c.releases_in-releases.result.now c.args.self.now.search.given_up c.loop-tried.tried index c.index-releases-releases.result
    c.loop-tried.invariant (omega (arith, c.loop-tried-test.true))
    (slice_get_read c.releases_in-releases.result.now (length c.releases_in-releases.result.now) index c.index-releases-releases.result refl (omega (arith, c.loop-tried-test.true)) c.index-releases-releases.is)
    (λ h. true≢false (sym (c.fits.ensures.1 h.fits) ∙ c.if-fits.false))

pub returns-then-fits : goal.returns-then-fits
returns-then-fits c =
    greatest_here c.args.universe.now c.args.rules.now c.args.roots.now c.args.dead.now c.args.self.now.search.places.items c.args.name.now c.releases_in-releases.result.now _ c.args.self.now.search.given_up _ c.loop-tried.tried _
    c.loop-tried.invariant c.loop-tried-test.true c.releases_in-releases.ensures c.index-releases-releases.is (c.fits.ensures.0 c.if-fits.true) refl refl
    (c.len-reached.ensures ∙ c.args.self.now.search.names.ok.0 ∙ seen_long c.args.self.now.search.names.items)
