-- What is of no organisation is answered the same in every state.
use Rattle.std.proofs.Common.{◌≡◌, inl, inr, ℕ, List, [], ◌∷◌, Bool, false, cond, Option, Some, None, refl, sym, ap, subst, ◌∙◌}
use Rattle.org_requests.specs.declared.refusals.Refusal.{Refusal}
use Rattle.org_requests.specs.declared.replies.Reply.{Reply}
use Rattle.doc_tree.specs.Doc.{dict, no_pairs}
use Rattle.org_core.specs.declared.needs.Need.TheVariants.{Operator}
use Rattle.access_lists.specs.declared.perm.Perm.TheVariants as permission
use Rattle.org_requests.specs.declared.requests.Body.{Body}
use Rattle.org_core.specs.Needs.{lacking}
use Rattle.org_requests.specs.declared.requests.Place.{Place}
use Rattle.org_requests.specs.declared.requests.Place.TheVariants.{Of, Organisations, LeftOut, NoRoute, NoMethod, NoMemory}
use Rattle.org_requests.specs.declared.requests.Request.{Request}
use Rattle.org_core.specs.Outcomes.{Decided, shows, tells, unless, outcome_of}
use Rattle.org_requests.specs.Requests.{org_at, org_of}
use Rattle.org_core.specs.FullStates.{FullState, none}
use Rattle.org_requests.specs.declared.verbs.Verb.{Verb}
use Rattle.org_requests.specs.declared.verbs.Verb.TheVariants.{Get, Post, Put, Delete, Other}
use Rattle.org_machine.proofs.PreparedLemmas.{step_is_served}
use Rattle.org_machine.specs.Alone.{States, lists, steps, is_listing, IsDue, IsAnsweredBy}
use Rattle.org_requests.specs.Heads.{head_refusal}
use Rattle.org_machine.specs.Marks.{Mark, mark_of, served}
use Rattle.org_machine.specs.Serving.{IsOrShort}
use Rattle.org_machine.specs.Steps.{at_organisations, at_place, context, step}

at_place_same : (place : Place) (request : Request) → org_at place ≡ None → (one other : FullState) → at_place place request one ≡ at_place place request other
at_place_same (Of org route) request none one other = cc
at_place_same Organisations request none one other = refl
at_place_same LeftOut request none one other = refl
at_place_same NoRoute request none one other = refl
at_place_same (NoMethod org) request none one other = refl
at_place_same NoMemory request none one other = refl

-- the step of a request of no organisation is the same in every state
pub same_step : (request : Request) → org_of request ≡ None → (one other : FullState) → step request one ≡ step request other
same_step request none one other = ap (λ (done : Decided). outcome_of (unless (head_refusal request) done).answer) (at_place_same request.place request none one other)

unless_still : (refusal : Option Refusal) (done : Decided) → (outcome_of done.answer).moves ≡ [] → (outcome_of (unless refusal done).answer).moves ≡ []
unless_still None done still = still
unless_still (Some refusal) done still = refl

organisations_still : (caller : Option (List ℕ)) (verb : Verb) (body : Body) → (outcome_of (at_organisations caller verb body).answer).moves ≡ []
organisations_still caller Get body = unless_still (lacking (context [] caller none) (Operator permission.Read ∷ [])) (tells (shows (dict no_pairs))) refl
organisations_still caller Post body = refl
organisations_still caller Put body = refl
organisations_still caller Delete body = refl
organisations_still caller Other body = refl

at_place_still : (place : Place) (request : Request) → org_at place ≡ None → (state : FullState) → (outcome_of (at_place place request state).answer).moves ≡ []
at_place_still (Of org route) request none state = cc
at_place_still Organisations request none state = organisations_still request.caller request.verb request.body
at_place_still LeftOut request none state = refl
at_place_still NoRoute request none state = refl
at_place_still (NoMethod org) request none state = refl
at_place_still NoMemory request none state = refl

-- and it changes none
pub no_step : (request : Request) → org_of request ≡ None → (state : FullState) → (step request state).moves ≡ []
no_step request none state = unless_still (head_refusal request) (at_place request.place request state) (at_place_still request.place request none state)

-- the step's reply, or want of memory, answers what is of no organisation and isn't the listing
pub outside_answered : (states : States) (request : Request) (reply : Reply) → org_of request ≡ None → is_listing request ≡ false
    → IsOrShort reply (step request none).reply → IsAnsweredBy (mark_of reply) states request reply
outside_answered states request reply of_none unlisted (inl same) =
    let mark : mark_of reply ≡ served = ap mark_of same ∙ step_is_served request none in
    subst (λ (m : Mark). IsAnsweredBy m states request reply) (sym mark)
    (subst (λ (b : Bool). IsDue states (cond b lists (steps request)) reply) (sym unlisted)
    (λ state. same ∙ ap (λ o. o.reply) (same_step request of_none none state)))
outside_answered states request reply of_none unlisted (inr lost) =
    subst (λ (m : Mark). IsAnsweredBy m states request reply) (sym (ap mark_of lost)) lost
