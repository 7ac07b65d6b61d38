-- What is stored of the document of the body, and is the body, is what it says.
use Rattle.std.proofs.Common.{◌≡◌, IfOk, ap, option_map, subst, sym, ◌∙◌}
use Rattle.doc_tree.specs.Tree.{doc_of}
use Rattle.doc_tree.specs.Written.{text}
use Rattle.org_shelves.specs.StoredManifests.{artifact_stored_from}
use Rattle.org_rows.specs.Reading.{given, written_as}
use Rattle.row_reading.proofs.SaidLemmas.{none_stored, stored_ok}
use Rattle.row_reading.proofs.editions.read_artifact.Goals as goal

pub returns-in_ok-edition-in-Some-clause-found : goal.returns-in_ok-edition-in-Some-clause-found
returns-in_ok-edition-in-Some-clause-found c =
    let body = c.args.body.now in
    let written = subst (λ f. IfOk c.if_written.result (λ kept. kept ≡ written_as text body f)) c.in_ok-edition-in-Some.ensures.found c.if_written.ensures.found in
    stored_ok (λ doc. given (artifact_stored_from c.args.name.now c.args.id.now doc)) body (doc_of c.in-Some.tree) c.if_written.result (λ compact. sym (ap (option_map doc_of) c.in-Some.is) ∙ c.in_ok-tree.ensures compact) written c.if_written.ensures.compact

pub returns-in-None-clause-found : goal.returns-in-None-clause-found
returns-in-None-clause-found c = none_stored (λ doc. given (artifact_stored_from c.args.name.now c.args.id.now doc)) c.args.body.now (λ compact. sym (ap (option_map doc_of) c.in-None.is) ∙ c.in_ok-tree.ensures compact)
