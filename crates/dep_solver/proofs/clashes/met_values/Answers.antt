use Rattle.std.proofs.Common.{◌-◌, ℕ, List, length, min, subst, sym, true≢false, ◌∙◌}
use Rattle.version_rules.specs.Meets.{Meets}
use Rattle.dep_solver.specs.declared.universe.Release.{Release}
use Rattle.dep_solver.specs.Conflicts.{MeetsAt}
use Rattle.dep_solver.proofs.ClashLemmas.{or_adds, or_keeps, same_bits}
use Rattle.dep_solver.proofs.ValueLemmas.{bits_all, bits_more}
use Rattle.dep_solver.proofs.clashes.met_values.Goals.{then-meets, else-meets}
use Rattle.dep_solver.proofs.clashes.met_values.Goals as goal

pub loop-index-preserved : goal.loop-index-preserved
loop-index-preserved c = elim c.if-meets.branch [
  | then-meets w ↦
      bits_more (λ (k : ℕ) (release : Release). Meets release.version c.args.need.now.constraint) c.as_slice-releases.result.now c.loop-index.index c.index-releases-index.result c.loop-index.values c.if-meets.values c.loop-index-test.true
      c.index-releases-index.is c.loop-index.invariant (λ n. or_keeps c.loop-index.values w.only-values.result c.if-meets.values n w.values-is)
      (λ _. or_adds c.loop-index.values w.only-values.result c.if-meets.values w.release_value.result (min (length c.as_slice-releases.result.now - c.loop-index.index) 63) w.values-is w.only-values.ensures w.release_value.ensures.value)
  | else-meets w ↦
      bits_more (λ (k : ℕ) (release : Release). Meets release.version c.args.need.now.constraint) c.as_slice-releases.result.now c.loop-index.index c.index-releases-index.result c.loop-index.values c.if-meets.values c.loop-index-test.true
      c.index-releases-index.is c.loop-index.invariant (λ n. same_bits c.loop-index.values c.if-meets.values n w.values-is)
      (λ meets. absurd (true≢false (sym (c.meets.ensures.1 (subst (λ (r : Release). Meets r.version c.args.need.now.constraint) c.index-releases-index.is meets)) ∙ w.if-meets.false)))
]

pub returns : goal.returns
returns c =
    subst (λ (rs : List Release). MeetsAt rs c.args.need.now c.loop-index.values) c.as_slice-releases.ensures
    (bits_all (λ (k : ℕ) (release : Release). Meets release.version c.args.need.now.constraint) c.as_slice-releases.result.now c.loop-index.index c.loop-index.values c.loop-index-test.false c.loop-index.invariant)
