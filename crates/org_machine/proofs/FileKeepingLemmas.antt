-- Each step keeps the conditions of files.
use Rattle.std.proofs.Common.{◌≡◌, ℕ, List, [], ◌∷◌, Option, Some, None, Result, Ok, Err, unwrap_or, refl, subst, sym}
use Rattle.doc_tree.specs.Doc.{dict, no_pairs}
use Rattle.access_lists.specs.declared.perm.Perm.TheVariants as permission
use Rattle.org_shelves.proofs.StayingLemmas.{nothing_there}
use Rattle.org_requests.specs.declared.verbs.Verb.{Verb}
use Rattle.org_requests.specs.declared.verbs.Verb.TheVariants.{Get, Post, Put, Delete, Other}
use Rattle.org_core.specs.declared.needs.Need.TheVariants.{Operator}
use Rattle.org_requests.specs.declared.refusals.Refusal.{Refusal}
use Rattle.org_requests.specs.declared.refusals.Refusal.TheVariants.{NotFound}
use Rattle.org_requests.specs.declared.requests.Body.{Body}
use Rattle.org_requests.specs.declared.requests.Place.{Place}
use Rattle.org_requests.specs.declared.requests.Place.TheVariants.{Of, Organisations, LeftOut, NoRoute, NoMethod, NoMemory}
use Rattle.org_requests.specs.declared.requests.Request.{Request}
use Rattle.org_requests.specs.Routes.{Route}
use Rattle.org_core.specs.Contexts.{Context}
use Rattle.org_core.specs.FileMoves.{after_all}
use Rattle.org_core.specs.FullStates.{FullState, MeetsFileConditions, none}
use Rattle.org_core.specs.Keeping.{KeepsFileConditions, full_of}
use Rattle.org_core.specs.Needs.{lacking}
use Rattle.org_core.specs.Outcomes.{Decided, outcome_of, shows, tells, unless}
use Rattle.org_requests.specs.Refusals.{refuses}
use Rattle.org_requests.specs.Requests.{org_at}
use Rattle.org_core.specs.Rules.{Rules}
use Rattle.org_machine.proofs.Groups.{all_lawful, at_route_is}
use Rattle.org_requests.specs.Heads.{head_refusal}
use Rattle.org_machine.specs.Marks.{Mark, served, short, down, after, own_name}
use Rattle.org_machine.specs.Order.{absence_refusal, done_by, permitted, found, by_operation, answered_by}
use Rattle.org_machine.specs.Placing.{placed}
use Rattle.org_machine.specs.Steps.{asks_for_organisation, at_organisations, at_place, at_route, context, step}

-- what was decided leads from these files to files that meet their conditions
abbrev LeadsTo : List ℕ → FullState → Decided → Type 0
LeadsTo org full decided = MeetsFileConditions (after_all org (outcome_of decided.answer).moves full)

unless_files : (org : List ℕ) (full : FullState) (refusal : Option Refusal) (done : Decided) → MeetsFileConditions full → (refusal ≡ None → LeadsTo org full done) → LeadsTo org full (unless refusal done)
unless_files org full None done meets keeps = keeps refl
unless_files org full (Some refusal) done meets keeps = meets

module _ {Route Operation : Type 0} where
  by_operation_files : (rules : Rules Route Operation) → KeepsFileConditions rules → (context : Context) (route : Route) (request : Request) (asked : Result Operation Refusal) → MeetsFileConditions (full_of context)
      → rules.operation context route request ≡ asked → LeadsTo context.org (full_of context) (by_operation rules context asked)
  by_operation_files rules keeps context route request (Err refusal) meets is = meets
  by_operation_files rules keeps context route request (Ok operation) meets is =
      unless_files context.org (full_of context) (refuses NotFound (rules.lacks context operation)) (found rules context operation) meets
      (λ _. unless_files context.org (full_of context) (lacking context (rules.needs context operation)) (permitted rules context operation) meets
      (λ _. unless_files context.org (full_of context) (rules.own_refusal context operation) (done_by rules context operation) meets
      (λ free. keeps context route request operation meets is free)))

  answered_files : (rules : Rules Route Operation) → KeepsFileConditions rules → (context : Context) (route : Route) (request : Request) → MeetsFileConditions (full_of context)
      → LeadsTo context.org (full_of context) (answered_by rules context route request)
  answered_files rules keeps context route request meets = by_operation_files rules keeps context route request (rules.operation context route request) meets refl

-- a route keeps the conditions of files by the law of its group
at_route_files : (context : Context) (route : Route) (request : Request) → MeetsFileConditions (full_of context) → LeadsTo context.org (full_of context) (at_route context route request)
at_route_files context route request meets =
    let its = placed route in
    subst (LeadsTo context.org (full_of context)) (sym (at_route_is context route request)) (answered_files its.rules (all_lawful route).keeps_files context its.route request meets)

at_organisations_files : (state : FullState) (caller : Option (List ℕ)) (verb : Verb) (body : Body) → MeetsFileConditions state → LeadsTo [] state (at_organisations caller verb body)
at_organisations_files state caller Get body meets = unless_files [] state (lacking (context [] caller none) (Operator permission.Read ∷ [])) (tells (shows (dict no_pairs))) meets (λ _. meets)
at_organisations_files state caller Post body meets = meets
at_organisations_files state caller Put body meets = meets
at_organisations_files state caller Delete body meets = meets
at_organisations_files state caller Other body meets = meets

-- the name of the organisation at a place
abbrev own_at : Place → List ℕ
own_at place = unwrap_or (org_at place) []

at_place_files : (place : Place) (request : Request) (state : FullState) → MeetsFileConditions state → LeadsTo (own_at place) state (at_place place request state)
at_place_files (Of org route) request state meets =
    unless_files org state (absence_refusal (asks_for_organisation route) (context org request.caller state)) (at_route (context org request.caller state) route request) meets
    (λ _. at_route_files (context org request.caller state) route request meets)
at_place_files Organisations request state meets = at_organisations_files state request.caller request.verb request.body meets
at_place_files LeftOut request state meets = meets
at_place_files NoRoute request state meets = meets
at_place_files (NoMethod org) request state meets = meets
at_place_files NoMemory request state meets = meets

-- each step leads from files that meet their conditions to files that do
pub step_keeps_files : (request : Request) (state : FullState) → MeetsFileConditions state → MeetsFileConditions (after_all (own_name request) (step request state).moves state)
step_keeps_files request state meets = unless_files (own_name request) state (head_refusal request) (at_place request.place request state) meets (λ _. at_place_files request.place request state meets)

-- and so does whatever befalls a request
pub after_keeps_files : (mark : Mark) (request : Request) (state : FullState) → MeetsFileConditions state → MeetsFileConditions (after mark request state)
after_keeps_files served request state meets = step_keeps_files request state meets
after_keeps_files short request state meets = meets
after_keeps_files down request state meets = meets

nobody_meets : MeetsFileConditions none
nobody_meets = record { nobody = λ gone. refl; named = nothing_there none.files }

-- an organisation that isn't there and has no files meets the conditions of files
pub none_meets : (full : FullState) → full ≡ none → MeetsFileConditions full
none_meets full is = subst MeetsFileConditions (sym is) nobody_meets
