-- What is asked of an index: which objects are looked for, which of them are shown, and what of each.
use Rattle.std.specs.Prelude.{ℕ, List, cond, codes, nat_le, Option, Some, None, option_and_then, unwrap_or, Result, Ok, Err}
use Rattle.doc_tree.specs.Doc.{Doc}
use Rattle.doc_tree.specs.Name.{is_name}
use Rattle.query_text.specs.Query.{Ors}
use Rattle.search_query.specs.Partial.{Wanted, partial_of, then_do}
use Rattle.org_requests.specs.Documents.{absent}
use Rattle.org_requests.specs.Parameters.{asked_for, number_in, or_bad_parameter}
use Rattle.org_requests.specs.declared.refusals.Refusal.{Refusal}
use Rattle.org_requests.specs.declared.refusals.Refusal.TheVariants.{BadField, BadQuery, NotFound}
use Rattle.org_requests.specs.declared.requests.Parameter.{Parameter}
use Rattle.search_routes.specs.declared.operations.Asked.{Asked}
use Rattle.search_routes.specs.declared.operations.SearchOperation.{SearchOperation}
use Rattle.search_routes.specs.declared.operations.SearchOperation.TheVariants as operation
use Rattle.search_routes.specs.Readings.{read_as}

-- the query that was read, or the place where the text stops to begin one
abbrev pub or_bad_query : Result Ors ℕ → Result Ors Refusal
or_bad_query (Ok query) = Ok query
or_bad_query (Err place) = Err (BadQuery place)

-- the query of the parameter `q`. Where there is none, everything is looked for
abbrev pub query_asked : List Parameter → Result Ors Refusal
query_asked parameters = or_bad_query (read_as (unwrap_or (asked_for (codes "q") parameters) (codes "*:*")))

-- the number, if it isn't past the largest that a parameter may give
abbrev pub within_limit : ℕ → Option ℕ
within_limit number = cond (nat_le number 4294967295) (Some number) None

-- the number that a parameter gives, and another where there is no such parameter
abbrev pub number_given : ℕ → Option (List ℕ) → Option ℕ
number_given other None = Some other
number_given other (Some text) = option_and_then within_limit (number_in text)

-- the number of the parameter of this name
abbrev pub number_asked : List ℕ → ℕ → List Parameter → Result ℕ Refusal
number_asked name other parameters = or_bad_parameter name (number_given other (asked_for name parameters))

-- what the parameters `q`, `start` and `rows` ask for, or the first of them that hasn't its form: the objects that are found
-- are shown from the first on, and at most 1,000 of them, where nothing else is said
abbrev pub asked_in : List Parameter → Result Asked Refusal
asked_in parameters =
    then_do (query_asked parameters) (λ query.
    then_do (number_asked (codes "start") 0 parameters) (λ start.
    then_do (number_asked (codes "rows") 1000 parameters) (λ rows.
    Ok (record { query = query; start = start; rows = rows }))))

-- the keys that a body asks for, or the field of it that hasn't its form
abbrev pub or_bad_field : Result (List Wanted) (List ℕ) → Result (List Wanted) Refusal
or_bad_field (Ok partial) = Ok partial
or_bad_field (Err field) = Err (BadField field)

-- the keys that a document asks for
abbrev pub partial_in : Result Doc Refusal → Result (List Wanted) Refusal
partial_in (Ok doc) = or_bad_field (partial_of doc)
partial_in (Err refusal) = Err refusal

-- the name that a segment of a path is, if it has a name's form
abbrev pub name_in : List ℕ → Option (List ℕ)
name_in text = cond (is_name text) (Some text) None

-- a search that shows whole objects. Where the path has no name, no index has it
abbrev pub finding : Option (List ℕ) → Result Asked Refusal → Result SearchOperation Refusal
finding index (Err refusal) = Err refusal
finding None (Ok asked) = Err NotFound
finding (Some index) (Ok asked) = Ok (operation.Find (record { index = index; asked = asked; partial = None }))

-- a search that shows these keys
abbrev pub finding_keys : List ℕ → Asked → Result (List Wanted) Refusal → Result SearchOperation Refusal
finding_keys index asked (Ok partial) = Ok (operation.Find (record { index = index; asked = asked; partial = Some partial }))
finding_keys index asked (Err refusal) = Err refusal

-- a search that shows the keys of its body, which is looked at behind the parameters. Where the path has no name, no index has
-- it, and the body has only to be readable
abbrev pub finding_parts : Option (List ℕ) → Result Asked Refusal → Result Doc Refusal → Result SearchOperation Refusal
finding_parts index (Err refusal) document = Err refusal
finding_parts None (Ok asked) document = Err (absent document)
finding_parts (Some index) (Ok asked) document = finding_keys index asked (partial_in document)
