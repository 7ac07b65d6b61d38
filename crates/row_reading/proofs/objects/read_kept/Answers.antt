-- What is stored of the document of the body, and is the body, is what it says.
use Rattle.std.proofs.Common.{◌≡◌, IfOk, ap, option_map, subst, sym, ◌∙◌}
use Rattle.doc_tree.specs.Tree.{doc_of}
use Rattle.doc_tree.specs.Written.{text}
use Rattle.org_core.specs.ObjectConditions.{IsStored}
use Rattle.org_rows.specs.Reading.{object_stored, written_as}
use Rattle.row_reading.proofs.PlaceLemmas.{kept_is}
use Rattle.row_reading.proofs.SaidLemmas.{kept_ok, none_stored, stored_ok}
use Rattle.row_reading.proofs.objects.read_kept.Goals as goal

pub returns-in_ok-kept-in-Some-clause-found : goal.returns-in_ok-kept-in-Some-clause-found
returns-in_ok-kept-in-Some-clause-found c =
    let body = c.args.body.now in
    let written = subst (λ f. IfOk c.if_text.result (λ kept. kept ≡ written_as text body f)) c.in_ok-kept-in-Some.ensures c.if_text.ensures.found in
    stored_ok (object_stored c.args.key.now.kind c.args.key.now.name) body (doc_of c.in-Some.tree) c.if_text.result (λ compact. sym (ap (option_map doc_of) c.in-Some.is) ∙ c.in_ok-tree.ensures compact) written c.if_text.ensures.compact

pub returns-in_ok-kept-in-Some-clause-stored : goal.returns-in_ok-kept-in-Some-clause-stored
returns-in_ok-kept-in-Some-clause-stored c =
    let body = c.args.body.now in
    let k = c.args.key.now in
    let written = subst (λ f. IfOk c.if_text.result (λ kept. kept ≡ written_as text body f)) c.in_ok-kept-in-Some.ensures c.if_text.ensures.found in
    kept_ok (object_stored c.args.key.now.kind c.args.key.now.name) body (IsStored k.kind k.name) (λ doc stored. kept_is k doc c.requires stored) (doc_of c.in-Some.tree) c.if_text.result
    (λ compact. sym (ap (option_map doc_of) c.in-Some.is) ∙ c.in_ok-tree.ensures compact) written c.if_text.ensures.compact

pub returns-in-None-clause-found : goal.returns-in-None-clause-found
returns-in-None-clause-found c = none_stored (object_stored c.args.key.now.kind c.args.key.now.name) c.args.body.now (λ compact. sym (ap (option_map doc_of) c.in-None.is) ∙ c.in_ok-tree.ensures compact)
