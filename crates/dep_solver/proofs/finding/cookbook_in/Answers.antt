use Rattle.std.proofs.Common.{rules}
use Rattle.std.proofs.lemmas.Fn.{always_returns_same}
use Rattle.doc_tree.specs.Text.{text_cmp}
use Rattle.dep_solver.specs.declared.universe.Cookbook.{Cookbook}
use Rattle.dep_solver.proofs.FindLemmas.{found_in, not_found_in}
use Rattle.dep_solver.proofs.finding.cookbook_in.Goals as goal

pub returns-in-Ok : goal.returns-in-Ok
returns-in-Ok c =
    found_in c.args.universe.now c.as_slice-cookbooks.result.now c.as_slice-cookbooks.ensures c.in-Ok.index c.index-cookbooks-index.result c.args.name.now
    c.in-Ok.ensures.bound c.index-cookbooks-index.is (c.in-Ok.ensures.position (λ (y : Cookbook). text_cmp y.name c.args.name.now) (always_returns_same _ _ _ (λ a r h called. search rules)))

pub returns-in-Err : goal.returns-in-Err
returns-in-Err c =
    not_found_in c.args.universe.now c.as_slice-cookbooks.result.now c.as_slice-cookbooks.ensures c.in-Err.field-0 c.args.name.now
    (c.in-Err.ensures.position (λ (y : Cookbook). text_cmp y.name c.args.name.now) (always_returns_same _ _ _ (λ a r h called. search rules)))
