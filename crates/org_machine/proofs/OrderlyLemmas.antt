-- The moves of each step are orderly: who comes, comes first.
use Rattle.std.proofs.Common.{ℕ, List, [], ◌∷◌, Option, Some, None, Result, Ok, Err, refl, sym, subst}
use Rattle.access_lists.specs.declared.perm.Perm.TheVariants as permission
use Rattle.doc_tree.specs.Doc.{dict, no_pairs}
use Rattle.org_core.specs.declared.needs.Need.TheVariants.{Operator}
use Rattle.org_core.specs.declared.rules.Prepared.{Prepared}
use Rattle.org_requests.specs.declared.refusals.Refusal.{Refusal}
use Rattle.org_requests.specs.declared.refusals.Refusal.TheVariants.{NotFound}
use Rattle.org_requests.specs.declared.requests.Body.{Body}
use Rattle.org_requests.specs.declared.requests.Place.{Place}
use Rattle.org_requests.specs.declared.requests.Place.TheVariants.{Of, Organisations, LeftOut, NoRoute, NoMethod, NoMemory}
use Rattle.org_requests.specs.declared.requests.Request.{Request}
use Rattle.org_requests.specs.Routes.{Route}
use Rattle.org_core.specs.Contexts.{Context}
use Rattle.org_core.specs.Keeping.{MakesOrderly, IsOrderlyGroup}
use Rattle.org_core.specs.Moves.{IsOrderly}
use Rattle.org_core.specs.Needs.{lacking}
use Rattle.org_core.specs.Outcomes.{Decided, Done, IsAsDecided, shows, tells, unless, outcome_of}
use Rattle.org_requests.specs.Refusals.{refuses}
use Rattle.org_core.specs.Rules.{Rules}
use Rattle.org_core.specs.FullStates.{FullState, none}
use Rattle.org_requests.specs.declared.verbs.Verb.{Verb}
use Rattle.org_requests.specs.declared.verbs.Verb.TheVariants.{Get, Post, Put, Delete, Other}
use Rattle.org_machine.proofs.Groups.{all_lawful, at_route_is}
use Rattle.org_requests.specs.Heads.{head_refusal}
use Rattle.org_machine.specs.Order.{absence_refusal, done_by, permitted, found, by_operation, answered_by}
use Rattle.org_machine.specs.Placing.{placed}
use Rattle.org_machine.specs.Steps.{at_route, asks_for_organisation, context, at_organisations, at_place, decided}

-- a refusal makes no move
unless_orderly : (refusal : Option Refusal) (done : Decided) → MakesOrderly done → MakesOrderly (unless refusal done)
unless_orderly None done orderly = orderly
unless_orderly (Some refusal) done orderly = refl

module _ {Route Operation : Type 0} where
  by_operation_orderly : (rules : Rules Route Operation) → IsOrderlyGroup rules → (context : Context) (asked : Result Operation Refusal) → MakesOrderly (by_operation rules context asked)
  by_operation_orderly rules orderly context (Err refusal) = refl
  by_operation_orderly rules orderly context (Ok operation) =
      unless_orderly (refuses NotFound (rules.lacks context operation)) (found rules context operation)
      (unless_orderly (lacking context (rules.needs context operation)) (permitted rules context operation)
      (unless_orderly (rules.own_refusal context operation) (done_by rules context operation) (orderly context operation)))

  answered_orderly : (rules : Rules Route Operation) → IsOrderlyGroup rules → (context : Context) (route : Route) (request : Request) → MakesOrderly (answered_by rules context route request)
  answered_orderly rules orderly context route request = by_operation_orderly rules orderly context (rules.operation context route request)

-- those of a route are by the law of its group
at_route_orderly : (context : Context) (route : Route) (request : Request) → MakesOrderly (at_route context route request)
at_route_orderly context route request =
    let its = placed route in
    subst MakesOrderly (sym (at_route_is context route request)) (answered_orderly its.rules (all_lawful route).orderly context its.route request)

organisations_orderly_too : (caller : Option (List ℕ)) (verb : Verb) (body : Body) → MakesOrderly (at_organisations caller verb body)
organisations_orderly_too caller Get body = unless_orderly (lacking (context [] caller none) (Operator permission.Read ∷ [])) (tells (shows (dict no_pairs))) refl
organisations_orderly_too caller Post body = refl
organisations_orderly_too caller Put body = refl
organisations_orderly_too caller Delete body = refl
organisations_orderly_too caller Other body = refl

at_place_orderly : (place : Place) (request : Request) (state : FullState) → MakesOrderly (at_place place request state)
at_place_orderly (Of org route) request state =
    unless_orderly (absence_refusal (asks_for_organisation route) (context org request.caller state)) (at_route (context org request.caller state) route request)
    (at_route_orderly (context org request.caller state) route request)
at_place_orderly Organisations request state = organisations_orderly_too request.caller request.verb request.body
at_place_orderly LeftOut request state = refl
at_place_orderly NoRoute request state = refl
at_place_orderly (NoMethod org) request state = refl
at_place_orderly NoMemory request state = refl

-- the moves of each step are orderly
pub decided_orderly : (request : Request) (state : FullState) → MakesOrderly (decided request state)
decided_orderly request state = unless_orderly (head_refusal request) (at_place request.place request state) (at_place_orderly request.place request state)

prepared_of : (prepared : Prepared) (answer : Result Done Refusal) → IsOrderly (outcome_of answer).moves → IsAsDecided (Ok prepared) answer → IsOrderly prepared.moves
prepared_of prepared (Ok done) orderly same = subst IsOrderly (sym same.1) orderly
prepared_of prepared (Err refusal) orderly same = absurd same

-- and so are those that were prepared
pub prepared_orderly : (prepared : Prepared) (due : Decided) → MakesOrderly due → IsAsDecided (Ok prepared) due.answer → IsOrderly prepared.moves
prepared_orderly prepared due orderly same = prepared_of prepared due.answer orderly same
