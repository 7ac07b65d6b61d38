-- What is found in the tree of the body, and written as the body, is what it says.
use Rattle.std.proofs.Common.{◌≡◌, IfOk, ap, option_map, subst, sym, ◌∙◌}
use Rattle.doc_tree.specs.Tree.{doc_of}
use Rattle.org_rows.specs.Bodies.{count_body}
use Rattle.org_rows.specs.Reading.{count_in, written_as}
use Rattle.row_reading.proofs.SaidLemmas.{none_said, said_ok}
use Rattle.row_reading.proofs.counts.read_count.Goals as goal

pub returns-in-Some : goal.returns-in-Some
returns-in-Some c =
    let body = c.args.body.now in
    let written = subst (λ f. IfOk c.if_written.result (λ kept. kept ≡ written_as count_body body f)) c.count_in-found.ensures c.if_written.ensures.found in
    said_ok count_body count_in body (doc_of c.in-Some.tree) c.if_written.result (λ compact. sym (ap (option_map doc_of) c.in-Some.is) ∙ c.in_ok-tree.ensures compact) written c.if_written.ensures.compact

pub returns-in-None : goal.returns-in-None
returns-in-None c = none_said count_body count_in c.args.body.now (λ compact. sym (ap (option_map doc_of) c.in-None.is) ∙ c.in_ok-tree.ensures compact)
