use Rattle.std.proofs.Common.{[], sym, refl}
use Rattle.search_query.proofs.WalkLemmas.{walk_fit, walk_misfit, walk_any, greedy}
use Rattle.search_query.proofs.walk.fits.Goals as goal

pub returns-in-Fit : goal.returns-in-Fit
returns-in-Fit c = (λ _. walk_fit c.args.signs.now c.args.value.now (sym c.in-Fit.ensures), λ _. refl)

pub returns-in-Misfit : goal.returns-in-Misfit
returns-in-Misfit c = (λ h. cc, λ fits. absurd (walk_misfit c.args.signs.now c.args.value.now (sym c.in-Misfit.ensures) fits))

pub returns-in-AtAny : goal.returns-in-AtAny
returns-in-AtAny c = (
  λ h. walk_any c.args.signs.now c.args.value.now c.in-AtAny.behind.now c.in-AtAny.rest.now (sym c.in-AtAny.ensures) (c.fits_behind.ensures.0 h),
  λ fits. c.fits_behind.ensures.1 (greedy c.args.signs.now c.args.value.now [] c.args.value.now c.in-AtAny.behind.now c.in-AtAny.rest.now refl (sym c.in-AtAny.ensures) fits),
)
