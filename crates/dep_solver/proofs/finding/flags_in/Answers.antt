use Rattle.std.proofs.Common.{rules}
use Rattle.std.proofs.lemmas.Fn.{always_returns_same}
use Rattle.doc_tree.specs.Text.{text_cmp}
use Rattle.dep_solver.specs.declared.universe.Cookbook.{Cookbook}
use Rattle.dep_solver.proofs.FindLemmas.{flags_found_in, flags_missing_in}
use Rattle.dep_solver.proofs.finding.flags_in.Goals as goal

pub returns-in-Ok : goal.returns-in-Ok
returns-in-Ok c =
    flags_found_in c.args.universe.now c.args.flags.now c.as_slice-cookbooks.result.now c.as_slice-cookbooks.ensures c.in-Ok.index c.args.name.now
    c.in-Ok.ensures.bound (c.in-Ok.ensures.position (λ (y : Cookbook). text_cmp y.name c.args.name.now) (always_returns_same _ _ _ (λ a r h called. search rules))) _ c.list_at.ensures

pub returns-in-Err : goal.returns-in-Err
returns-in-Err c =
    flags_missing_in c.args.universe.now c.args.flags.now c.as_slice-cookbooks.result.now c.as_slice-cookbooks.ensures c.in-Err.field-0 c.args.name.now
    (c.in-Err.ensures.position (λ (y : Cookbook). text_cmp y.name c.args.name.now) (always_returns_same _ _ _ (λ a r h called. search rules)))
