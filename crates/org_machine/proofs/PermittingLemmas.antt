-- A step is answered 403 exactly where its request is forbidden.
use Rattle.std.proofs.Common.{◌≡◌, ◌↔◌, inl, inr, Bool, true, false, cond, not, ◌&&◌, ℕ, zero, suc, List, [], ◌∷◌, map, Any, nat_eq, IfSome, Option, Some, None, is_some, Result, Ok, Err, refl, sym, ap, subst, ◌∙◌, arith}
use Rattle.std.proofs.lemmas.Option.{same_Some}
use Rattle.membership.specs.Members.{Membership}
use Rattle.access_lists.specs.declared.acl.Acl.{Acl}
use Rattle.access_lists.specs.declared.perm.Perm.{Perm}
use Rattle.access_lists.specs.declared.perm.Perm.TheVariants as permission
use Rattle.access_lists.specs.Acls.{entry_of}
use Rattle.access_lists.specs.Permitted.{Permitted}
use Rattle.access_lists.proofs.PermittedLemmas.{permission_decided}
use Rattle.doc_tree.specs.Doc.{Doc, dict, no_pairs}
use Rattle.org_requests.specs.declared.verbs.Verb.{Verb}
use Rattle.org_requests.specs.declared.verbs.Verb.TheVariants.{Get, Post, Put, Delete, Other}
use Rattle.org_core.specs.declared.needs.Need.{Need}
use Rattle.org_core.specs.declared.needs.Need.TheVariants.{Operator, Listed}
use Rattle.org_requests.specs.declared.refusals.Refusal.{Refusal}
use Rattle.org_requests.specs.declared.refusals.Refusal.TheVariants.{TooLarge, VersionNotTaken, NotImplemented, NotFound, NotAllowed, UnknownCaller, Forbidden}
use Rattle.org_requests.specs.declared.replies.Reply.{Reply}
use Rattle.org_requests.specs.declared.requests.Body.{Body}
use Rattle.org_requests.specs.declared.requests.Place.{Place}
use Rattle.org_requests.specs.declared.requests.Place.TheVariants.{Of, Organisations, LeftOut, NoRoute, NoMethod, NoMemory}
use Rattle.org_requests.specs.declared.requests.Request.{Request}
use Rattle.org_requests.specs.Routes.{Route}
use Rattle.org_core.specs.Contexts.{Context}
use Rattle.org_core.proofs.PlainLemmas.{document_plain, refuses_plain}
use Rattle.org_requests.specs.Documents.{document_in, is_too_long}
use Rattle.org_core.specs.Needs.{permission_of, is_known, grants, is_granted, first_lacking, lacking}
use Rattle.org_core.specs.Outcomes.{Success, shows, makes, gives, Done, Decided, tells, unless, reply_of, outcome_of}
use Rattle.org_core.specs.Plain.{IsPlain, RefusesPlainly, NeverForbids}
use Rattle.org_requests.specs.Refusals.{refuses, first_some, reply_to}
use Rattle.org_requests.specs.Requests.{is_operator}
use Rattle.org_core.specs.Rules.{Rules}
use Rattle.org_core.specs.FullStates.{FullState}
use Rattle.org_core.specs.States.{list_in, membership_of}
use Rattle.org_machine.specs.Permitting.{IsListed, IsPermitted, LacksOne, IsForbiddenBy, IsForbiddenAt, IsForbiddenIn, IsForbidden}
use Rattle.org_machine.proofs.Groups.{all_lawful, at_route_is, forbidden_is}
use Rattle.org_machine.specs.Alone.{Exchange, RunsAlone, asked_in, replies_alone}
use Rattle.org_requests.specs.Heads.{head_refusal, is_left_out, is_no_route, is_taken, is_no_method}
use Rattle.org_machine.specs.Marks.{mark_of, after, answer}
use Rattle.org_machine.specs.Order.{absence_refusal, done_by, permitted, found, operated, by_operation, answered_by}
use Rattle.org_machine.specs.Permitting.{IsForbiddenListing, IsPermittedExactly, ArePermittedExactly}
use Rattle.org_machine.specs.Placing.{placed}
use Rattle.org_machine.specs.Steps.{at_route, asks_for_organisation, context, unnamed, listed, at_organisations, at_place, step}

-- a decision is answered 403
abbrev Is403 : Decided → Type 0
Is403 decided = (outcome_of decided.answer).reply.status ≡ 403

not_403 : (status : ℕ) → nat_eq status 403 ≡ false → status ≡ 403 → ⊥
not_403 status other is = cc (sym (ap (λ n. nat_eq n 403) is) ∙ other)

true_is_not : true ≡ false → ⊥
true_is_not is = cc

-- only a missing permission is
plain_is_not : (refusal : Refusal) → IsPlain refusal → (reply_to refusal).status ≡ 403 → ⊥
plain_is_not refusal plain is = subst (λ (status : ℕ). cond (nat_eq status 403) ⊥ (Unit {0})) is plain

told_is_not : (told : Success) → (reply_of told).status ≡ 403 → ⊥
told_is_not (shows doc) is = not_403 200 refl is
told_is_not (makes doc) is = not_403 201 refl is
told_is_not (gives bytes) is = not_403 200 refl is

answer_is_not : (answer : Result Done Refusal) → RefusesPlainly answer → (outcome_of answer).reply.status ≡ 403 → ⊥
answer_is_not (Ok done) plain is = told_is_not done.told is
answer_is_not (Err refusal) plain is = plain_is_not refusal plain is

-- behind a plain refusal that may stand
unless_403 : (refusal : Option Refusal) (done : Decided) → IfSome refusal IsPlain → Is403 (unless refusal done) ↔ ((refusal ≡ None) × Is403 done)
unless_403 None done plain = ((λ is. (refl, is)), (λ both. both.1))
unless_403 (Some refusal) done plain = ((λ is. absurd (plain_is_not refusal plain is)), (λ both. cc both.0))

-- ---- what is granted is what is permitted

grants_is : (membership : Membership) (permission : Perm) (caller : Option (List ℕ)) (found : Option Acl) → grants membership permission caller found ≡ true
    → (name : List ℕ) × (list : Acl) × (caller ≡ Some name) × (found ≡ Some list) × Permitted membership (entry_of permission list) name
grants_is membership permission None None is = cc
grants_is membership permission None (Some list) is = cc
grants_is membership permission (Some name) None is = cc
grants_is membership permission (Some name) (Some list) is = (name, list, refl, refl, (permission_decided membership (entry_of permission list) name).0 is)

granted_listed : (context : Context) (need : Need) → is_granted context need ≡ true → IsListed context need
granted_listed context (Operator permission) is = cc
granted_listed context (Listed permission k) is = grants_is (membership_of context.state) permission context.caller (list_in context.state k) is

listed_granted : (context : Context) (need : Need) → IsListed context need → is_granted context need ≡ true
listed_granted context (Operator permission) listed = absurd listed
listed_granted context (Listed permission k) (name, list, caller, found, permitted) =
    ap (λ (c : Option (List ℕ)). grants (membership_of context.state) permission c (list_in context.state k)) caller
    ∙ ap (λ (f : Option Acl). grants (membership_of context.state) permission (Some name) f) found
    ∙ (permission_decided (membership_of context.state) (entry_of permission list) name).1 permitted

-- ---- the first need that is missing

any_rest : {A : Type 0} (P : A → Type 0) (x : A) (xs : List A) → Any P xs → Any P (x ∷ xs)
any_rest P x xs (k, y, within, at, holds) = (suc k, y, omega (arith, within), at, holds)

any_first : {A : Type 0} (P : A → Type 0) (x : A) (xs : List A) → P x → Any P (x ∷ xs)
any_first P x xs holds = (zero, x, omega arith, refl, holds)

any_tail : {A : Type 0} (P : A → Type 0) (x : A) (xs : List A) → (P x → ⊥) → Any P (x ∷ xs) → Any P xs
any_tail P x xs never (zero, y, within, at, holds) = absurd (never (subst P (sym at) holds))
any_tail P x xs never (suc k, y, within, at, holds) = (k, y, omega (arith, within), at, holds)

not_permitted : (context : Context) (need : Need) → is_operator context.caller ≡ false → is_granted context need ≡ false → IsPermitted context need → ⊥
not_permitted context need other lacks (inl operator) = true_is_not (sym operator ∙ other)
not_permitted context need other lacks (inr listed) = true_is_not (sym (listed_granted context need listed) ∙ lacks)

first_missing : (context : Context) (needs : List Need) → is_operator context.caller ≡ false → (refusal : Refusal) → first_lacking context needs ≡ Some refusal
    → LacksOne context needs × ((permission : Perm) × (refusal ≡ Forbidden permission))
first_missing context [] other refusal is = cc
first_missing context (need ∷ rest) other refusal is =
    elim (is_granted context need) as (λ b. is_granted context need ≡ b → cond b (first_lacking context rest) (Some (Forbidden (permission_of need))) ≡ Some refusal
    → LacksOne context (need ∷ rest) × ((permission : Perm) × (refusal ≡ Forbidden permission))) [
      | true ↦ λ _ is.
          let there = first_missing context rest other refusal is in
          (any_rest (λ n. ¬ (IsPermitted context n)) need rest there.0, there.1)
      | false ↦ λ lacks is. (any_first (λ n. ¬ (IsPermitted context n)) need rest (not_permitted context need other lacks), (permission_of need, sym (same_Some _ refusal is)))
    ] refl is

missing_first : (context : Context) (needs : List Need) → LacksOne context needs → (refusal : Refusal) × (first_lacking context needs ≡ Some refusal)
missing_first context [] (k, y, within, at, holds) = absurd (omega (arith, within))
missing_first context (need ∷ rest) lacks =
    elim (is_granted context need) as (λ b. is_granted context need ≡ b → (refusal : Refusal) × (cond b (first_lacking context rest) (Some (Forbidden (permission_of need))) ≡ Some refusal)) [
      | true ↦ λ granted. missing_first context rest (any_tail (λ n. ¬ (IsPermitted context n)) need rest (λ lacking. lacking (inr (granted_listed context need granted))) lacks)
      | false ↦ λ _. (Forbidden (permission_of need), refl)
    ] refl

lacking_lacks : (context : Context) (needs : List Need) (refusal : Refusal) → lacking context needs ≡ Some refusal → LacksOne context needs × ((permission : Perm) × (refusal ≡ Forbidden permission))
lacking_lacks context needs refusal is =
    elim (is_operator context.caller) as (λ b. is_operator context.caller ≡ b → cond b None (first_lacking context needs) ≡ Some refusal → LacksOne context needs × ((permission : Perm) × (refusal ≡ Forbidden permission))) [
      | true ↦ λ _ is. cc
      | false ↦ λ other is. first_missing context needs other refusal is
    ] refl is

nobody_lacks : (context : Context) (needs : List Need) → is_operator context.caller ≡ true → LacksOne context needs → ⊥
nobody_lacks context needs operator (k, need, within, at, lacking) = lacking (inl operator)

lacks_lacking : (context : Context) (needs : List Need) → LacksOne context needs → (refusal : Refusal) × (lacking context needs ≡ Some refusal)
lacks_lacking context needs lacks =
    elim (is_operator context.caller) as (λ b. is_operator context.caller ≡ b → (refusal : Refusal) × (cond b None (first_lacking context needs) ≡ Some refusal)) [
      | true ↦ λ operator. absurd (nobody_lacks context needs operator lacks)
      | false ↦ λ _. missing_first context needs lacks
    ] refl

-- ---- at a route of a group

not_there : (b : Bool) → refuses NotFound b ≡ None → b ≡ false
not_there true is = cc
not_there false is = refl

module _ {Route Operation : Type 0} where
  permitted_is_not : (rules : Rules Route Operation) → NeverForbids rules → (context : Context) (operation : Operation) → Is403 (permitted rules context operation) → ⊥
  permitted_is_not rules never context operation is =
      answer_is_not (rules.does context operation).answer (never.does context operation)
      ((unless_403 (rules.own_refusal context operation) (done_by rules context operation) (never.own_refusal context operation)).0 is).1

  found_403 : (rules : Rules Route Operation) → NeverForbids rules → (context : Context) (operation : Operation) (first : Option Refusal) → lacking context (rules.needs context operation) ≡ first
      → Is403 (unless first (permitted rules context operation)) ↔ LacksOne context (rules.needs context operation)
  found_403 rules never context operation None none = (
    (λ is. absurd (permitted_is_not rules never context operation is)),
    (λ lacks. let some = lacks_lacking context (rules.needs context operation) lacks in cc (sym none ∙ some.1)),
  )
  found_403 rules never context operation (Some refusal) some =
      let it = lacking_lacks context (rules.needs context operation) refusal some in
      ((λ _. it.0), (λ _. ap (λ (r : Refusal). (reply_to r).status) it.1.1))

  operated_403 : (rules : Rules Route Operation) → NeverForbids rules → (context : Context) (operation : Operation)
      → Is403 (operated rules context operation) ↔ ((rules.lacks context operation ≡ false) × LacksOne context (rules.needs context operation))
  operated_403 rules never context operation =
      let stands = unless_403 (refuses NotFound (rules.lacks context operation)) (found rules context operation) (refuses_plain NotFound (rules.lacks context operation) tt) in
      let missing = found_403 rules never context operation _ refl in (
        (λ is. (not_there (rules.lacks context operation) (stands.0 is).0, missing.0 (stands.0 is).1)),
        (λ both. stands.1 (ap (refuses NotFound) both.0, missing.1 both.1)),
      )

  by_403 : (rules : Rules Route Operation) → NeverForbids rules → (context : Context) (asked : Result Operation Refusal) → RefusesPlainly asked
      → Is403 (by_operation rules context asked)
      ↔ ((operation : Operation) × (asked ≡ Ok operation) × (rules.lacks context operation ≡ false) × LacksOne context (rules.needs context operation))
  by_403 rules never context (Err refusal) plain = ((λ is. absurd (plain_is_not refusal plain is)), (λ it. absurd (let none : ⊥ = cc it.1 in none)))
  by_403 rules never context (Ok operation) plain = (
    (λ is. let both = (operated_403 rules never context operation).0 is in (operation, refl, both.0, both.1)),
    (λ it.
        let same : it.0 ≡ operation = cc it.1 in
        (operated_403 rules never context operation).1
        (subst (λ (o : Operation). (rules.lacks context o ≡ false) × LacksOne context (rules.needs context o)) same (it.2, it.3))),
  )

  answered_403 : (rules : Rules Route Operation) → NeverForbids rules → (context : Context) (route : Route) (request : Request)
      → Is403 (answered_by rules context route request) ↔ IsForbiddenBy rules context route request
  answered_403 rules never context route request = by_403 rules never context (rules.operation context route request) (never.operation context route request)

-- by the law of the route's group
at_route_403 : (context : Context) (route : Route) (request : Request) → Is403 (at_route context route request) ↔ IsForbiddenAt context route request
at_route_403 context route request =
    let its = placed route in
    let exact = answered_403 its.rules (all_lawful route).never_forbids context its.route request in
    let decided = at_route_is context route request in
    let forbidden = forbidden_is context route request in (
      (λ is. subst (λ (T : Type 0). T) (sym forbidden) (exact.0 (subst Is403 decided is))),
      (λ is. subst Is403 (sym decided) (exact.1 (subst (λ (T : Type 0). T) forbidden is))),
    )

-- ---- what stands before

two_plain : (one two : Option Refusal) → IfSome one IsPlain → IfSome two IsPlain → IfSome (first_some (one ∷ two ∷ [])) IsPlain
two_plain (Some one) two plain _ = plain
two_plain None (Some two) _ plain = plain
two_plain None None _ _ = tt

absence_plain : (asks : Bool) (context : Context) → IfSome (absence_refusal asks context) IsPlain
absence_plain asks context =
    two_plain (refuses NotFound (asks && not (is_some context.state))) (refuses UnknownCaller (asks && not (is_known context)))
    (refuses_plain NotFound (asks && not (is_some context.state)) tt) (refuses_plain UnknownCaller (asks && not (is_known context)) tt)

refuses_first : (refusal : Refusal) (b : Bool) (rest : List (Option Refusal)) → IsPlain refusal → IfSome (first_some rest) IsPlain → IfSome (first_some (refuses refusal b ∷ rest)) IsPlain
refuses_first refusal true rest plain _ = plain
refuses_first refusal false rest _ plain = plain

head_plain : (request : Request) → IfSome (head_refusal request) IsPlain
head_plain request =
    let method : List (Option Refusal) = refuses NotAllowed (is_no_method request.place) ∷ [] in
    let route : List (Option Refusal) = refuses NotFound (is_no_route request.place) ∷ method in
    let path : List (Option Refusal) = refuses NotImplemented (is_left_out request.place) ∷ route in
    let version : List (Option Refusal) = refuses VersionNotTaken (not (is_taken request.api)) ∷ path in
    refuses_first TooLarge (is_too_long request.body) version tt
    (refuses_first VersionNotTaken (not (is_taken request.api)) path tt
    (refuses_first NotImplemented (is_left_out request.place) route tt
    (refuses_first NotFound (is_no_route request.place) method tt
    (refuses_first NotAllowed (is_no_method request.place) [] tt tt))))

-- ---- at a place

listed_403 : (caller : Option (List ℕ)) → Is403 (listed caller) ↔ (is_operator caller ≡ false)
listed_403 caller =
    elim (is_operator caller) as (λ b. Is403 (unless (cond b None (Some (Forbidden permission.Read))) (tells (shows (dict no_pairs)))) ↔ (b ≡ false)) [
      | true ↦ ((λ is. absurd (not_403 200 refl is)), (λ is. absurd (true_is_not is)))
      | false ↦ ((λ _. refl), (λ _. refl))
    ]

unnamed_plain : (document : Result Doc Refusal) → RefusesPlainly document → IsPlain (unnamed document)
unnamed_plain (Ok doc) plain = tt
unnamed_plain (Err refusal) plain = plain

organisations_403 : (caller : Option (List ℕ)) (verb : Verb) (body : Body) → Is403 (at_organisations caller verb body) ↔ IsForbiddenListing verb caller
organisations_403 caller Get body = listed_403 caller
organisations_403 caller Post body = ((λ is. plain_is_not (unnamed (document_in body)) (unnamed_plain (document_in body) (document_plain body)) is), (λ none. absurd none))
organisations_403 caller Put body = ((λ is. not_403 405 refl is), (λ none. absurd none))
organisations_403 caller Delete body = ((λ is. not_403 405 refl is), (λ none. absurd none))
organisations_403 caller Other body = ((λ is. not_403 405 refl is), (λ none. absurd none))

at_place_403 : (place : Place) (request : Request) (state : FullState) → Is403 (at_place place request state) ↔ IsForbiddenIn place request state
at_place_403 (Of org route) request state =
    let its = context org request.caller state in
    let stands = unless_403 (absence_refusal (asks_for_organisation route) its) (at_route its route request) (absence_plain (asks_for_organisation route) its) in
    let there = at_route_403 its route request in
    ((λ is. ((stands.0 is).0, there.0 (stands.0 is).1)), (λ both. stands.1 (both.0, there.1 both.1)))
at_place_403 Organisations request state = organisations_403 request.caller request.verb request.body
at_place_403 LeftOut request state = ((λ is. not_403 501 refl is), (λ none. absurd none))
at_place_403 NoRoute request state = ((λ is. not_403 404 refl is), (λ none. absurd none))
at_place_403 (NoMethod org) request state = ((λ is. not_403 405 refl is), (λ none. absurd none))
at_place_403 NoMemory request state = ((λ is. not_403 501 refl is), (λ none. absurd none))

-- a step is answered 403 exactly where its request is forbidden
pub step_403 : (request : Request) (state : FullState) → ((step request state).reply.status ≡ 403) ↔ IsForbidden request state
step_403 request state =
    let stands = unless_403 (head_refusal request) (at_place request.place request state) (head_plain request) in
    let there = at_place_403 request.place request state in
    ((λ is. ((stands.0 is).0, there.0 (stands.0 is).1)), (λ both. stands.1 (both.0, there.1 both.1)))

-- ---- replies

-- a reply that is the step's, or tells what befell the request, is permitted exactly
pub permitted_exactly : (request : Request) (reply : Reply) (state : FullState) → reply ≡ answer (mark_of reply) request state → IsPermittedExactly request reply state
permitted_exactly request reply state is mark =
    let same : reply ≡ (step request state).reply = is ∙ ap (λ m. answer m request state) mark in
    let exact = step_403 request state in
    ((λ forbids. exact.0 (sym (ap (λ (r : Reply). r.status) same) ∙ forbids)), (λ forbidden. ap (λ (r : Reply). r.status) same ∙ exact.1 forbidden))

each_permitted : (state : FullState) (es : List Exchange) → map (λ e. e.reply) es ≡ replies_alone state (map asked_in es) → ArePermittedExactly state es
each_permitted state [] is = tt
each_permitted state (e ∷ rest) is =
    let first : e.reply ≡ answer (mark_of e.reply) e.request state = cc is in
    let others : map (λ e. e.reply) rest ≡ replies_alone (after (mark_of e.reply) e.request state) (map asked_in rest) = cc is in
    (permitted_exactly e.request e.reply state first, each_permitted (after (mark_of e.reply) e.request state) rest others)

-- and so are the exchanges of the small machine
pub all_permitted : (opened : FullState) (es : List Exchange) → RunsAlone opened es → ArePermittedExactly opened es
all_permitted opened es runs = each_permitted opened es runs.replies
