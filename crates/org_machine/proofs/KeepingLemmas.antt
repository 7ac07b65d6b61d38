-- Each step keeps the conditions of an organisation's state.
use Rattle.std.proofs.Common.{◌≡◌, ℕ, Bool, true, false, not, ◌&&◌, List, [], ◌∷◌, Option, None, is_some, refl, sym, subst}
use Rattle.doc_tree.specs.Doc.{dict, no_pairs}
use Rattle.org_core.specs.declared.needs.Need.TheVariants.{Operator}
use Rattle.access_lists.specs.declared.perm.Perm.TheVariants as permission
use Rattle.org_requests.specs.declared.requests.Body.{Body}
use Rattle.org_requests.specs.declared.refusals.Refusal.TheVariants.{NotFound, UnknownCaller}
use Rattle.org_core.specs.Needs.{is_known, lacking}
use Rattle.org_requests.specs.Refusals.{refuses, first_some}
use Rattle.org_requests.specs.declared.requests.Place.{Place}
use Rattle.org_requests.specs.declared.requests.Place.TheVariants.{Of, Organisations, LeftOut, NoRoute, NoMethod, NoMemory}
use Rattle.org_requests.specs.declared.requests.Request.{Request}
use Rattle.org_requests.specs.Routes.{Route}
use Rattle.org_core.specs.Conditions.{MeetsConditions}
use Rattle.org_core.specs.Contexts.{Context}
use Rattle.org_core.specs.Keeping.{LeadsToConditions}
use Rattle.org_core.specs.Lawful.{IsKnownWhere}
use Rattle.org_core.specs.Moves.{after_moves}
use Rattle.org_core.specs.Outcomes.{shows, tells}
use Rattle.org_core.specs.FullStates.{FullState, none}
use Rattle.org_requests.specs.declared.verbs.Verb.{Verb}
use Rattle.org_requests.specs.declared.verbs.Verb.TheVariants.{Get, Post, Put, Delete, Other}
use Rattle.org_machine.proofs.AnsweredLemmas.{unless_keeps, answered_keeps}
use Rattle.org_machine.proofs.Groups.{all_lawful, asks_is, at_route_is}
use Rattle.org_requests.specs.Heads.{head_refusal}
use Rattle.org_machine.specs.Marks.{Mark, served, short, down, after}
use Rattle.org_machine.specs.Order.{absence_refusal}
use Rattle.org_machine.specs.Placing.{placed}
use Rattle.org_machine.specs.Steps.{at_route, asks_for_organisation, context, at_organisations, at_place, step}

-- who asks for an organisation that has to be there is known to it
known_there : (there known : Bool) → first_some (refuses NotFound (true && not there) ∷ refuses UnknownCaller (true && not known) ∷ []) ≡ None → known ≡ true
known_there true true free = refl
known_there true false free = cc
known_there false known free = cc

known_where : (asks : Bool) (context : Context) → absence_refusal asks context ≡ None → IsKnownWhere asks context
known_where true context free = known_there (is_some context.state) (is_known context) free
known_where false context free = tt

-- a route keeps the conditions by the law of its group
at_route_keeps : (context : Context) (route : Route) (request : Request) → MeetsConditions context.state → absence_refusal (asks_for_organisation route) context ≡ None
    → LeadsToConditions context.state (at_route context route request)
at_route_keeps context route request meets free =
    let its = placed route in
    subst (LeadsToConditions context.state) (sym (at_route_is context route request))
    (answered_keeps (IsKnownWhere its.asks) its.rules (all_lawful route).keeps context its.route request meets
    (subst (λ (asks : Bool). IsKnownWhere asks context) (asks_is route) (known_where (asks_for_organisation route) context free)))

organisations_keep_it : (state : FullState) (caller : Option (List ℕ)) (verb : Verb) (body : Body) → MeetsConditions state.state → LeadsToConditions state.state (at_organisations caller verb body)
organisations_keep_it state caller Get body meets = unless_keeps state.state (lacking (context [] caller none) (Operator permission.Read ∷ [])) (tells (shows (dict no_pairs))) meets (λ _. meets)
organisations_keep_it state caller Post body meets = meets
organisations_keep_it state caller Put body meets = meets
organisations_keep_it state caller Delete body meets = meets
organisations_keep_it state caller Other body meets = meets

at_place_keeps : (place : Place) (request : Request) (state : FullState) → MeetsConditions state.state → LeadsToConditions state.state (at_place place request state)
at_place_keeps (Of org route) request state meets =
    unless_keeps state.state (absence_refusal (asks_for_organisation route) (context org request.caller state)) (at_route (context org request.caller state) route request) meets
    (λ free. at_route_keeps (context org request.caller state) route request meets free)
at_place_keeps Organisations request state meets = organisations_keep_it state request.caller request.verb request.body meets
at_place_keeps LeftOut request state meets = meets
at_place_keeps NoRoute request state meets = meets
at_place_keeps (NoMethod org) request state meets = meets
at_place_keeps NoMemory request state meets = meets

-- each step leads from a state that meets the conditions to one that does
pub step_keeps : (request : Request) (state : FullState) → MeetsConditions state.state → MeetsConditions (after_moves (step request state).moves state.state)
step_keeps request state meets = unless_keeps state.state (head_refusal request) (at_place request.place request state) meets (λ _. at_place_keeps request.place request state meets)

-- and so does whatever befalls a request
pub after_keeps : (mark : Mark) (request : Request) (state : FullState) → MeetsConditions state.state → MeetsConditions (after mark request state).state
after_keeps served request state meets = step_keeps request state meets
after_keeps short request state meets = meets
after_keeps down request state meets = meets
