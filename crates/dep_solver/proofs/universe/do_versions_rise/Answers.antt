use Rattle.std.proofs.Common.{arith, get_or, ◌-◌, true≢false, sym, refl, ap, ◌∙◌, is_ge}
use Rattle.version_rules.specs.Order.{version_cmp}
use Rattle.dep_solver.proofs.VersionLemmas.{versions_total}
use Rattle.dep_solver.specs.declared.universe.Release.{Release}
use Rattle.dep_solver.proofs.OrderLemmas.{less_from_ge, not_less_from_ge, not_sorted, rises_more, sorted_from_rises}
use Rattle.dep_solver.proofs.universe.do_versions_rise.Goals as goal

pub loop-index-init : goal.loop-index-init
loop-index-init c = λ k d h. absurd (omega arith)

pub loop-index-preserved : goal.loop-index-preserved
loop-index-preserved c =
    rises_more (λ (r : Release). r.version) version_cmp c.args.releases.now c.loop-index.index c.index-releases-index.result c.index-releases-index-in-loop-index.result (c.loop-index.auto.index) c.loop-index-test.true
    (less_from_ge (version_cmp (get_or c.args.releases.now (c.loop-index.index - 1) c.index-releases-index.result).version (get_or c.args.releases.now c.loop-index.index c.index-releases-index-in-loop-index.result).version) c.is_ge.result (c.is_ge.ensures ∙ ap is_ge c.compare.ensures.order) c.if-is_ge.false) c.loop-index.invariant

pub returns-then-is_ge : goal.returns-then-is_ge
returns-then-is_ge c = (
  λ h. absurd (true≢false (sym h)),
  λ h. absurd (not_sorted (λ (r : Release). r.version) version_cmp c.args.releases.now c.loop-index.index c.index-releases-index.result c.index-releases-index-in-loop-index.result c.loop-index.auto.index c.loop-index-test.true
      (not_less_from_ge (version_cmp (get_or c.args.releases.now (c.loop-index.index - 1) c.index-releases-index.result).version (get_or c.args.releases.now c.loop-index.index c.index-releases-index-in-loop-index.result).version) c.is_ge.result (c.is_ge.ensures ∙ ap is_ge c.compare.ensures.order) c.if-is_ge.true) h),
)

pub returns : goal.returns
returns c = (λ h. sorted_from_rises (λ (r : Release). r.version) version_cmp versions_total c.args.releases.now c.loop-index.index (omega arith) c.loop-index.invariant, λ h. refl)
