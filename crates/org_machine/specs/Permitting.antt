-- Permitted exactly: a request is answered 403 exactly where nothing before refuses it, and one of the permissions that
-- it needs isn't permitted to its caller.
use Rattle.std.specs.Prelude.{◌≡◌, ◌⊎◌, ◌↔◌, ℕ, false, List, [], ◌∷◌, Any, IsTrue, Option, Some, None, Ok}
use Rattle.access_lists.specs.declared.acl.Acl.{Acl}
use Rattle.access_lists.specs.Acls.{entry_of}
use Rattle.access_lists.specs.Permitted.{Permitted}
use Rattle.org_requests.specs.declared.verbs.Verb.{Verb}
use Rattle.org_requests.specs.declared.verbs.Verb.TheVariants.{Get, Post, Put, Delete, Other}
use Rattle.org_core.specs.declared.needs.Need.{Need}
use Rattle.org_core.specs.declared.needs.Need.TheVariants.{Operator, Listed}
use Rattle.org_requests.specs.declared.replies.Reply.{Reply}
use Rattle.org_requests.specs.declared.requests.Place.{Place}
use Rattle.org_requests.specs.declared.requests.Place.TheVariants.{Of, Organisations, LeftOut, NoRoute, NoMethod, NoMemory}
use Rattle.org_requests.specs.declared.requests.Request.{Request}
use Rattle.org_requests.specs.Routes.{Route}
use Rattle.org_core.specs.Contexts.{Context}
use Rattle.org_requests.specs.Requests.{is_operator}
use Rattle.org_core.specs.Rules.{Rules}
use Rattle.org_core.specs.FullStates.{FullState}
use Rattle.org_core.specs.States.{list_in, membership_of}
use Rattle.org_machine.specs.Alone.{Exchange}
use Rattle.org_requests.specs.Heads.{head_refusal}
use Rattle.org_machine.specs.Marks.{mark_of, served, after}
use Rattle.org_machine.specs.Order.{absence_refusal}
use Rattle.org_machine.specs.Placing.{by_group}
use Rattle.org_machine.specs.Steps.{asks_for_organisation, context}

-- the access list of the object of the key is there, and permits it to the caller; what only the operator may do no list
-- permits
abbrev pub IsListed : Context → Need → Type 0
IsListed context (Operator permission) = ⊥
IsListed context (Listed permission k) =
    (caller : List ℕ) × (list : Acl) × (context.caller ≡ Some caller) × (list_in context.state k ≡ Some list)
    × Permitted (membership_of context.state) (entry_of permission list) caller

-- what is needed is permitted to the caller: the operator may do everything, and anybody else what a list permits
abbrev pub IsPermitted : Context → Need → Type 0
IsPermitted context need = IsTrue (is_operator context.caller) ⊎ IsListed context need

-- one of these needs isn't permitted
abbrev pub LacksOne : Context → List Need → Type 0
LacksOne context needs = Any (λ need. ¬ (IsPermitted context need)) needs

-- by the rules of a group: the request was read, the object that its path names is there, and a permission is missing
abbrev pub IsForbiddenBy : {Route Operation : Type 0} → Rules Route Operation → Context → Route → Request → Type 0
IsForbiddenBy {Route} {Operation} rules context route request =
    (operation : Operation) × (rules.operation context route request ≡ Ok operation) × (rules.lacks context operation ≡ false)
    × LacksOne context (rules.needs context operation)

-- at a route, by the rules of its group
abbrev pub IsForbiddenAt : Context → Route → Request → Type 0
IsForbiddenAt context route request = by_group (λ GroupRoute Operation asks rules at. IsForbiddenBy rules context at request) route

-- anybody but the operator may not list the organisations
abbrev pub IsForbiddenListing : Verb → Option (List ℕ) → Type 0
IsForbiddenListing Get caller = is_operator caller ≡ false
IsForbiddenListing Post caller = ⊥
IsForbiddenListing Put caller = ⊥
IsForbiddenListing Delete caller = ⊥
IsForbiddenListing Other caller = ⊥

-- at a place: of an organisation, it is there and knows the caller, where the route asks for that
abbrev pub IsForbiddenIn : Place → Request → FullState → Type 0
IsForbiddenIn (Of org route) request state =
    (absence_refusal (asks_for_organisation route) (context org request.caller state) ≡ None) × IsForbiddenAt (context org request.caller state) route request
IsForbiddenIn Organisations request state = IsForbiddenListing request.verb request.caller
IsForbiddenIn LeftOut request state = ⊥
IsForbiddenIn NoRoute request state = ⊥
IsForbiddenIn (NoMethod org) request state = ⊥
IsForbiddenIn NoMemory request state = ⊥

-- the head refuses nothing, and the request is forbidden at its place
abbrev pub IsForbidden : Request → FullState → Type 0
IsForbidden request state = (head_refusal request ≡ None) × IsForbiddenIn request.place request state

-- a request that is served is answered 403 exactly where it is forbidden in this state
abbrev pub IsPermittedExactly : Request → Reply → FullState → Type 0
IsPermittedExactly request reply state = mark_of reply ≡ served → (reply.status ≡ 403) ↔ IsForbidden request state

-- and so is each of these, in the state at its position
abbrev pub ArePermittedExactly : FullState → List Exchange → Type 0
ArePermittedExactly state [] = Unit {0}
ArePermittedExactly state (e ∷ rest) = IsPermittedExactly e.request e.reply state × ArePermittedExactly (after (mark_of e.reply) e.request state) rest
