use Rattle.std.proofs.Common.{arith, get_or, ◌-◌, true≢false, sym, refl}
use Rattle.dep_solver.specs.declared.universe.Cookbook.{Cookbook}
use Rattle.std.specs.Cmp.Lexicographic.{nat_list_cmp_total}
use Rattle.doc_tree.specs.Text.{text_cmp}
use Rattle.dep_solver.proofs.OrderLemmas.{less_from_ge, not_less_from_ge, not_sorted, rises_more, sorted_from_rises}
use Rattle.dep_solver.proofs.universe.do_names_rise.Goals as goal

pub loop-index-init : goal.loop-index-init
loop-index-init c = λ k d h. absurd (omega arith)

pub loop-index-preserved : goal.loop-index-preserved
loop-index-preserved c =
    rises_more (λ (c : Cookbook). c.name) text_cmp c.args.cookbooks.now c.loop-index.index c.index-cookbooks-index.result c.index-cookbooks-index-in-loop-index.result (c.loop-index.auto.index) c.loop-index-test.true
    (less_from_ge (text_cmp (get_or c.args.cookbooks.now (c.loop-index.index - 1) c.index-cookbooks-index.result).name (get_or c.args.cookbooks.now c.loop-index.index c.index-cookbooks-index-in-loop-index.result).name) c.ge.result c.ge.ensures c.if-ge.false) c.loop-index.invariant

pub returns-then-ge : goal.returns-then-ge
returns-then-ge c = (
  λ h. absurd (true≢false (sym h)),
  λ h. absurd (not_sorted (λ (c : Cookbook). c.name) text_cmp c.args.cookbooks.now c.loop-index.index c.index-cookbooks-index.result c.index-cookbooks-index-in-loop-index.result c.loop-index.auto.index c.loop-index-test.true
      (not_less_from_ge (text_cmp (get_or c.args.cookbooks.now (c.loop-index.index - 1) c.index-cookbooks-index.result).name (get_or c.args.cookbooks.now c.loop-index.index c.index-cookbooks-index-in-loop-index.result).name) c.ge.result c.ge.ensures c.if-ge.true) h),
)

pub returns : goal.returns
returns c = (λ h. sorted_from_rises (λ (c : Cookbook). c.name) text_cmp nat_list_cmp_total c.args.cookbooks.now c.loop-index.index (omega arith) c.loop-index.invariant, λ h. refl)
