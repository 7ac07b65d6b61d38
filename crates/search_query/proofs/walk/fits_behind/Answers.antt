use Rattle.std.proofs.Common.{[], sym, refl, arith}
use Rattle.search_query.proofs.WalkLemmas.{walk_fit, walk_shorter, at_star, at_rest, at_end}
use Rattle.search_query.proofs.walk.fits_behind.Goals as goal

pub returns-in-Fit : goal.returns-in-Fit
returns-in-Fit c = (λ _. c.positions.invariant.0 ([], c.positions.here.now, refl, walk_fit c.positions.left.now c.positions.here.now (sym c.in-Fit.ensures)), λ _. refl)

pub positions-smaller-in-AtAny : goal.positions-smaller-in-AtAny
positions-smaller-in-AtAny c =
    let less = walk_shorter c.positions.left.now c.positions.here.now c.in-AtAny.behind.now c.in-AtAny.rest.now (sym c.in-AtAny.ensures) in
    omega (arith, less.0, less.1)

pub positions-preserved-in-AtAny : goal.positions-preserved-in-AtAny
positions-preserved-in-AtAny c =
    let same = at_star c.positions.left.now c.positions.here.now c.in-AtAny.behind.now c.in-AtAny.rest.now (sym c.in-AtAny.ensures) in
    (λ h. c.positions.invariant.0 (same.1 h), λ h. same.0 (c.positions.invariant.1 h))

pub returns-in-None : goal.returns-in-None
returns-in-None c =
    (λ h. cc, λ h. absurd (at_end c.positions.left.now c.positions.here.now (sym c.in-Misfit.ensures) (sym c.in-None.ensures) (c.positions.invariant.1 h)))

pub positions-preserved : goal.positions-preserved
positions-preserved c =
    let same = at_rest c.positions.left.now c.positions.here.now c.in-Some.rest.now (sym c.in-Misfit.ensures) (sym c.in-Some.ensures) in
    (λ h. c.positions.invariant.0 (same.0.0 h), λ h. same.0.1 (c.positions.invariant.1 h))

pub positions-smaller : goal.positions-smaller
positions-smaller c =
    let same = at_rest c.positions.left.now c.positions.here.now c.in-Some.rest.now (sym c.in-Misfit.ensures) (sym c.in-Some.ensures) in
    omega (arith, same.1)
