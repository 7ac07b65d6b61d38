-- The rules of searches.
use Rattle.std.specs.Prelude.{ℕ, Bool, false, List, [], Option, Some, None, Result, Ok, Err}
use Rattle.object_finder.specs.Indexes.{index_of}
use Rattle.org_requests.specs.declared.verbs.Verb.{Verb}
use Rattle.org_requests.specs.declared.verbs.Verb.TheVariants.{Get, Post, Put, Delete, Other}
use Rattle.org_requests.specs.Documents.{document_in}
use Rattle.org_core.specs.Contexts.{Context}
use Rattle.org_core.specs.Outcomes.{Decided}
use Rattle.org_core.specs.Rules.{Rules}
use Rattle.org_requests.specs.declared.refusals.Refusal.{Refusal}
use Rattle.org_requests.specs.declared.refusals.Refusal.TheVariants.{NotAllowed}
use Rattle.org_requests.specs.declared.requests.Body.{Body}
use Rattle.org_requests.specs.declared.requests.Parameter.{Parameter}
use Rattle.org_requests.specs.Routes.{SearchRoute}
use Rattle.org_requests.specs.declared.routes.SearchRouteOf.TheVariants.{Indexes, Index}
use Rattle.search_routes.specs.declared.operations.SearchOperation.{SearchOperation}
use Rattle.search_routes.specs.declared.operations.SearchOperation.TheVariants as operation
use Rattle.search_routes.specs.Finding.{lacks_index, search_done, searched}
use Rattle.search_routes.specs.Listing.{indexes_listed}
use Rattle.search_routes.specs.Searches.{asked_in, finding, finding_parts, name_in}

-- what is asked of all indexes
abbrev pub indexes_asked : Verb → Result SearchOperation Refusal
indexes_asked Get = Ok operation.ListIndexes
indexes_asked Post = Err NotAllowed
indexes_asked Put = Err NotAllowed
indexes_asked Delete = Err NotAllowed
indexes_asked Other = Err NotAllowed

-- what is asked of one index: a GET shows whole objects, and a POST the keys of its body
abbrev pub index_asked : List ℕ → Verb → List Parameter → Body → Result SearchOperation Refusal
index_asked word Get parameters body = finding (name_in word) (asked_in parameters)
index_asked word Post parameters body = finding_parts (name_in word) (asked_in parameters) (document_in body)
index_asked word Put parameters body = Err NotAllowed
index_asked word Delete parameters body = Err NotAllowed
index_asked word Other parameters body = Err NotAllowed

-- what is asked
abbrev pub search_asked : SearchRoute → Verb → List Parameter → Body → Result SearchOperation Refusal
search_asked Indexes verb parameters body = indexes_asked verb
search_asked (Index word) verb parameters body = index_asked word verb parameters body

-- the index that the path names isn't there
abbrev pub search_lacks : Context → SearchOperation → Bool
search_lacks context operation.ListIndexes = false
search_lacks context (operation.Find search) = lacks_index context (index_of search.index)

-- of how many objects the index is that is searched
abbrev pub search_searches : Context → SearchOperation → Option ℕ
search_searches context operation.ListIndexes = None
search_searches context (operation.Find search) = Some (searched context search)

-- what is done
abbrev pub search_does : Context → SearchOperation → Decided
search_does context operation.ListIndexes = indexes_listed context
search_does context (operation.Find search) = search_done context search

-- the rules of these routes. Whoever the organisation knows may search: what isn't for the caller isn't found
abbrev pub search_rules : Rules SearchRoute SearchOperation
search_rules = record {
  operation = λ context route request. search_asked route request.verb request.parameters request.body;
  lacks = search_lacks;
  needs = λ context operation. [];
  own_refusal = λ context operation. None;
  searches = search_searches;
  does = search_does;
}
