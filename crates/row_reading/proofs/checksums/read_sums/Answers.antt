-- What is found in the tree of the body, and written as the body, is what it says.
use Rattle.std.proofs.Common.{◌≡◌, IfOk, ap, option_map, subst, sym, ◌∙◌}
use Rattle.doc_tree.specs.Tree.{doc_of}
use Rattle.org_rows.specs.Bodies.{sandbox_body}
use Rattle.org_rows.specs.Reading.{sums_in, written_as}
use Rattle.row_reading.proofs.SaidLemmas.{none_said, said_ok}
use Rattle.row_reading.proofs.checksums.read_sums.Goals as goal

pub returns-in_ok-found-in-Some : goal.returns-in_ok-found-in-Some
returns-in_ok-found-in-Some c =
    let body = c.args.body.now in
    let written = subst (λ f. IfOk c.if_written.result (λ kept. kept ≡ written_as sandbox_body body f)) c.in_ok-found-in-Some.ensures c.if_written.ensures.found in
    said_ok sandbox_body sums_in body (doc_of c.in-Some.tree) c.if_written.result (λ compact. sym (ap (option_map doc_of) c.in-Some.is) ∙ c.in_ok-tree.ensures compact) written c.if_written.ensures.compact

pub returns-in-None : goal.returns-in-None
returns-in-None c = none_said sandbox_body sums_in c.args.body.now (λ compact. sym (ap (option_map doc_of) c.in-None.is) ∙ c.in_ok-tree.ensures compact)
