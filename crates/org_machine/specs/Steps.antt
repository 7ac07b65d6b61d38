-- One request on one organisation's state: what the head refuses, whether the organisation has to be there,
-- and then the rules of the route's group.
use Rattle.std.specs.Prelude.{Bool, ℕ, List, [], ◌∷◌, Option, Result, Ok, Err, codes}
use Rattle.doc_tree.specs.Doc.{Doc, dict, no_pairs}
use Rattle.org_requests.specs.declared.verbs.Verb.{Verb}
use Rattle.org_requests.specs.declared.verbs.Verb.TheVariants.{Get, Post, Put, Delete, Other}
use Rattle.org_core.specs.declared.needs.Need.TheVariants.{Operator}
use Rattle.access_lists.specs.declared.perm.Perm.TheVariants as permission
use Rattle.org_requests.specs.declared.refusals.Refusal.{Refusal}
use Rattle.org_requests.specs.declared.refusals.Refusal.TheVariants.{NotImplemented, NotFound, NotAllowed, BadField}
use Rattle.org_requests.specs.declared.requests.Body.{Body}
use Rattle.org_requests.specs.declared.requests.Place.{Place}
use Rattle.org_requests.specs.declared.requests.Place.TheVariants.{Of, Organisations, LeftOut, NoRoute, NoMethod, NoMemory}
use Rattle.org_requests.specs.declared.requests.Request.{Request}
use Rattle.org_requests.specs.Routes.{Route}
use Rattle.org_requests.specs.Documents.{document_in}
use Rattle.org_core.specs.Contexts.{Context}
use Rattle.org_core.specs.Needs.{lacking}
use Rattle.org_core.specs.Outcomes.{Decided, Outcome, all_looks, shows, tells, refuse, unless, outcome_of}
use Rattle.org_core.specs.FullStates.{FullState, none}
use Rattle.org_requests.specs.Heads.{head_refusal}
use Rattle.org_machine.specs.Order.{absence_refusal, answered_by}
use Rattle.org_machine.specs.Placing.{by_group}

-- a request at a route, by the rules of the route's group
abbrev pub at_route : Context → Route → Request → Decided
at_route context route request = by_group (λ GroupRoute Operation asks rules at. answered_by rules context at request) route

-- the route asks that its organisation is there: every one but that by which it is created
abbrev pub asks_for_organisation : Route → Bool
asks_for_organisation route = by_group (λ GroupRoute Operation asks rules at. asks) route

-- a request at a route of an organisation
abbrev pub within : Context → Route → Request → Decided
within context route request = unless (absence_refusal (asks_for_organisation route) context) (at_route context route request)

-- whose request it is, who asks, and the full state
abbrev pub context : List ℕ → Option (List ℕ) → FullState → Context
context org caller state = record { org = org; caller = caller; state = state.state; files = state.files }

-- the refusal of a POST to `/organizations` whose body names no organisation
abbrev pub unnamed : Result Doc Refusal → Refusal
unnamed (Ok doc) = BadField (codes "name")
unnamed (Err refusal) = refusal

-- the listing, which the operator alone may see. No organisation knows of another, so the step lists none:
-- what the listing is answered, `Alone` says
abbrev pub listed : Option (List ℕ) → Decided
listed caller = unless (lacking (context [] caller none) (Operator permission.Read ∷ [])) (tells (shows (dict no_pairs)))

-- a request to `/organizations` that is of no organisation
abbrev pub at_organisations : Option (List ℕ) → Verb → Body → Decided
at_organisations caller Get body = listed caller
at_organisations caller Post body = refuse (unnamed (document_in body))
at_organisations caller Put body = refuse NotAllowed
at_organisations caller Delete body = refuse NotAllowed
at_organisations caller Other body = refuse NotAllowed

-- a request at its place
abbrev pub at_place : Place → Request → FullState → Decided
at_place (Of org route) request state = within (context org request.caller state) route request
at_place Organisations request state = at_organisations request.caller request.verb request.body
at_place LeftOut request state = refuse NotImplemented
at_place NoRoute request state = refuse NotFound
at_place (NoMethod org) request state = refuse NotAllowed
at_place NoMemory request state = refuse NotImplemented

-- how a request is decided in a state
abbrev pub decided : Request → FullState → Decided
decided request state = unless (head_refusal request) (at_place request.place request state)

-- one request: its reply, and the moves that it makes
abbrev pub step : Request → FullState → Outcome
step request state = outcome_of (decided request state).answer

-- how many bodies of objects it looks at, with those that the finder looks at to search an index of so many objects
abbrev pub looks : (ℕ → ℕ) → Request → FullState → ℕ
looks finder_looks request state = all_looks finder_looks (decided request state)
