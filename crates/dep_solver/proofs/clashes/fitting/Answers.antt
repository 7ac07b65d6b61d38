use Rattle.std.proofs.Common.{◌≡◌, ◌-◌, ℕ, List, [], length, min, slice_get, Some, subst, sym, true≢false, ◌∙◌}
use Rattle.std.specs.Int.{bit_at}
use Rattle.dep_solver.specs.declared.universe.Release.{Release}
use Rattle.dep_solver.specs.Search.{Fits}
use Rattle.dep_solver.proofs.ClashLemmas.{or_adds, or_keeps, same_bits}
use Rattle.dep_solver.proofs.ValueLemmas.{bits_all, bits_more}
use Rattle.dep_solver.proofs.clashes.fitting.Goals.{then-fits, else-fits}
use Rattle.dep_solver.proofs.clashes.fitting.Goals as goal

pub loop-index-preserved : goal.loop-index-preserved
loop-index-preserved c = elim c.if-fits.branch [
  | then-fits w ↦ (
    or_keeps c.loop-index.values w.only-values.result c.if-fits.values 0 w.values-is c.loop-index.invariant.0,
    bits_more (λ (k : ℕ) (release : Release). Fits c.args.universe.now c.args.rules.now c.args.roots.now c.args.dead.now [] c.args.cookbook.now.name release) c.as_slice-releases.result.now c.loop-index.index c.index-releases-index.result c.loop-index.values c.if-fits.values c.loop-index-test.true
        c.index-releases-index.is c.loop-index.invariant.1 (λ n. or_keeps c.loop-index.values w.only-values.result c.if-fits.values n w.values-is)
        (λ _. or_adds c.loop-index.values w.only-values.result c.if-fits.values w.release_value.result (min (length c.as_slice-releases.result.now - c.loop-index.index) 63) w.values-is w.only-values.ensures w.release_value.ensures.value),
  )
  | else-fits w ↦ (
    same_bits c.loop-index.values c.if-fits.values 0 w.values-is c.loop-index.invariant.0,
    bits_more (λ (k : ℕ) (release : Release). Fits c.args.universe.now c.args.rules.now c.args.roots.now c.args.dead.now [] c.args.cookbook.now.name release) c.as_slice-releases.result.now c.loop-index.index c.index-releases-index.result c.loop-index.values c.if-fits.values c.loop-index-test.true
        c.index-releases-index.is c.loop-index.invariant.1 (λ n. same_bits c.loop-index.values c.if-fits.values n w.values-is)
        (λ fits. absurd (true≢false (sym (c.fits.ensures.1 fits) ∙ w.if-fits.false))),
  )
]

pub returns-clause-fit : goal.returns-clause-fit
returns-clause-fit c =
    subst (λ (rs : List Release). (index : ℕ) (release : Release) → slice_get rs index ≡ Some release → Fits c.args.universe.now c.args.rules.now c.args.roots.now c.args.dead.now [] c.args.cookbook.now.name release → bit_at c.loop-index.values (min (length rs - index) 63) ≡ 1)
    c.as_slice-releases.ensures
    (bits_all (λ (k : ℕ) (release : Release). Fits c.args.universe.now c.args.rules.now c.args.roots.now c.args.dead.now [] c.args.cookbook.now.name release) c.as_slice-releases.result.now c.loop-index.index c.loop-index.values c.loop-index-test.false c.loop-index.invariant.1)
