use Rattle.std.proofs.Common.{sym, refl, ◌∙◌, true≢false}
use Rattle.dep_solver.proofs.DistinctLemmas.{distinct_all, distinct_more, distinct_none, not_distinct}
use Rattle.dep_solver.proofs.roots.are_distinct.Goals as goal

pub loop-index-init : goal.loop-index-init
loop-index-init c = distinct_none

pub returns-then-has_name : goal.returns-then-has_name
returns-then-has_name c = (
  λ h. absurd (true≢false (sym h)),
  λ h. absurd (not_distinct c.args.names.now c.loop-index.index c.index-names-index.result c.loop-index-test.true c.index-names-index.is (sym c.has_name.ensures ∙ c.if-has_name.true) h),
)

pub loop-index-preserved : goal.loop-index-preserved
loop-index-preserved c =
    distinct_more c.args.names.now c.loop-index.index c.index-names-index.result c.loop-index-test.true c.index-names-index.is (sym c.has_name.ensures ∙ c.if-has_name.false) c.loop-index.invariant

pub returns : goal.returns
returns c = (λ _. distinct_all c.args.names.now c.loop-index.index c.loop-index-test.false c.loop-index.invariant, λ _. refl)
