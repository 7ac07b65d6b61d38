-- These routes refuse nobody for want of a permission.
use Rattle.std.proofs.Common.{ℕ, List, codes, Option, Some, None, unwrap_or, Result, Ok, Err}
use Rattle.doc_tree.specs.Doc.{Doc}
use Rattle.query_text.specs.Query.{Ors}
use Rattle.org_requests.specs.declared.verbs.Verb.{Verb}
use Rattle.org_requests.specs.declared.verbs.Verb.TheVariants.{Get, Post, Put, Delete, Other}
use Rattle.search_query.specs.Partial.{Wanted, partial_of, then_do}
use Rattle.org_core.proofs.PlainLemmas.{absent_plain, document_plain}
use Rattle.org_requests.specs.Documents.{document_in}
use Rattle.org_core.specs.Contexts.{Context}
use Rattle.org_requests.specs.Parameters.{asked_for, or_bad_parameter}
use Rattle.org_core.specs.Plain.{NeverForbids, RefusesPlainly}
use Rattle.org_requests.specs.declared.refusals.Refusal.{Refusal}
use Rattle.org_requests.specs.declared.requests.Body.{Body}
use Rattle.org_requests.specs.declared.requests.Parameter.{Parameter}
use Rattle.org_requests.specs.Routes.{SearchRoute}
use Rattle.org_requests.specs.declared.routes.SearchRouteOf.TheVariants.{Indexes, Index}
use Rattle.search_routes.specs.declared.operations.Asked.{Asked}
use Rattle.search_routes.specs.declared.operations.SearchOperation.{SearchOperation}
use Rattle.search_routes.specs.declared.operations.SearchOperation.TheVariants as operation
use Rattle.search_routes.specs.Readings.{read_as}
use Rattle.search_routes.specs.SearchRules.{search_asked, search_does, search_rules}
use Rattle.search_routes.specs.Searches.{asked_in, finding, finding_keys, finding_parts, name_in, number_asked, number_given, or_bad_field, or_bad_query, partial_in, query_asked}

bad_query_plain : (read : Result Ors ℕ) → RefusesPlainly (or_bad_query read)
bad_query_plain (Ok query) = tt
bad_query_plain (Err place) = tt

bad_parameter_plain : (name : List ℕ) (value : Option ℕ) → RefusesPlainly (or_bad_parameter name value)
bad_parameter_plain name (Some value) = tt
bad_parameter_plain name None = tt

then_plain : {A B : Type 0} (read : Result A Refusal) (next : A → Result B Refusal) → RefusesPlainly read → ((x : A) → RefusesPlainly (next x)) → RefusesPlainly (then_do read next)
then_plain (Ok x) next plain after = after x
then_plain (Err refusal) next plain after = plain

asked_plain : (parameters : List Parameter) → RefusesPlainly (asked_in parameters)
asked_plain parameters =
    then_plain (query_asked parameters) (λ query. with_start query) (bad_query_plain (read_as (unwrap_or (asked_for (codes "q") parameters) (codes "*:*"))))
    (λ query. then_plain (number_asked (codes "start") 0 parameters) (λ start. with_rows query start) (bad_parameter_plain (codes "start") (number_given 0 (asked_for (codes "start") parameters)))
    (λ start. then_plain (number_asked (codes "rows") 1000 parameters) (λ rows. Ok (record { query = query; start = start; rows = rows })) (bad_parameter_plain (codes "rows") (number_given 1000 (asked_for (codes "rows") parameters))) (λ rows. tt)))
  where
    with_rows : Ors → ℕ → Result Asked Refusal
    with_rows query start = then_do (number_asked (codes "rows") 1000 parameters) (λ rows. Ok (record { query = query; start = start; rows = rows }))

    with_start : Ors → Result Asked Refusal
    with_start query = then_do (number_asked (codes "start") 0 parameters) (λ start. with_rows query start)

bad_field_plain : (read : Result (List Wanted) (List ℕ)) → RefusesPlainly (or_bad_field read)
bad_field_plain (Ok partial) = tt
bad_field_plain (Err field) = tt

partial_plain : (document : Result Doc Refusal) → RefusesPlainly document → RefusesPlainly (partial_in document)
partial_plain (Ok doc) plain = bad_field_plain (partial_of doc)
partial_plain (Err refusal) plain = plain

keys_plain : (index : List ℕ) (asked : Asked) (partial : Result (List Wanted) Refusal) → RefusesPlainly partial → RefusesPlainly (finding_keys index asked partial)
keys_plain index asked (Ok partial) plain = tt
keys_plain index asked (Err refusal) plain = plain

finding_plain : (index : Option (List ℕ)) (asked : Result Asked Refusal) → RefusesPlainly asked → RefusesPlainly (finding index asked)
finding_plain index (Err refusal) plain = plain
finding_plain None (Ok asked) plain = tt
finding_plain (Some index) (Ok asked) plain = tt

parts_plain : (index : Option (List ℕ)) (asked : Result Asked Refusal) (body : Body) → RefusesPlainly asked → RefusesPlainly (finding_parts index asked (document_in body))
parts_plain index (Err refusal) body plain = plain
parts_plain None (Ok asked) body plain = absent_plain body
parts_plain (Some index) (Ok asked) body plain = keys_plain index asked (partial_in (document_in body)) (partial_plain (document_in body) (document_plain body))

operation_plain : (route : SearchRoute) (verb : Verb) (parameters : List Parameter) (body : Body) → RefusesPlainly (search_asked route verb parameters body)
operation_plain Indexes Get parameters body = tt
operation_plain Indexes Post parameters body = tt
operation_plain Indexes Put parameters body = tt
operation_plain Indexes Delete parameters body = tt
operation_plain Indexes Other parameters body = tt
operation_plain (Index word) Get parameters body = finding_plain (name_in word) (asked_in parameters) (asked_plain parameters)
operation_plain (Index word) Post parameters body = parts_plain (name_in word) (asked_in parameters) body (asked_plain parameters)
operation_plain (Index word) Put parameters body = tt
operation_plain (Index word) Delete parameters body = tt
operation_plain (Index word) Other parameters body = tt

does_plain : (context : Context) (asked : SearchOperation) → RefusesPlainly (search_does context asked).answer
does_plain context operation.ListIndexes = tt
does_plain context (operation.Find search) = tt

pub searches_never_forbid : NeverForbids search_rules
searches_never_forbid = record {
  operation = λ context route request. operation_plain route request.verb request.parameters request.body;
  own_refusal = λ context operation. tt;
  does = does_plain;
}
