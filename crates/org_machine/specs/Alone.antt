-- The isolation theorem's words: to each organisation the replies are those of a small machine that
-- is given that organisation's requests alone.
use Rattle.std.specs.Prelude.{◌≡◌, Bool, false, cond, ◌&&◌, ℕ, List, [], ◌∷◌, ◌++◌, map, filter, Option, Some, None, is_some, is_none, bytes_eq, codes}
use Rattle.std.specs.List.{list_any}
use Rattle.std.specs.List.Sorted.{IsStrictlySortedBy}
use Rattle.doc_tree.specs.Text.{text_cmp}
use Rattle.org_requests.specs.Verbs.{is_get}
use Rattle.org_requests.specs.declared.replies.Reply.{Reply}
use Rattle.org_requests.specs.declared.requests.Request.{Request}
use Rattle.org_requests.specs.Requests.{org_of, is_of, is_operator}
use Rattle.org_requests.specs.declared.requests.Place.{Place}
use Rattle.org_requests.specs.declared.requests.Place.TheVariants.{Of, Organisations, LeftOut, NoRoute, NoMethod, NoMemory}
use Rattle.org_requests.specs.Replies.{shown, paths_behind}
use Rattle.org_requests.specs.Refusals.{out_of_memory}
use Rattle.org_core.specs.FullStates.{FullState, none}
use Rattle.org_requests.specs.Heads.{head_refusal}
use Rattle.org_machine.specs.Steps.{step}
use Rattle.org_machine.specs.Marks.{Mark, served, short, down, mark_of, answer, after, IsLawful}

-- a request and the reply to it
pub record Exchange : Type 0 where
  pub request : Request
  pub reply : Reply

-- a request and what befell it
pub record Asked : Type 0 where
  pub request : Request
  pub mark : Mark

-- what was asked in an exchange
abbrev pub asked_in : Exchange → Asked
asked_in exchange = record { request = exchange.request; mark = mark_of exchange.reply }

-- the exchanges of one organisation, in order
abbrev pub own : List ℕ → List Exchange → List Exchange
own name exchanges = filter (λ e. is_of name e.request) exchanges

-- the small machine: the replies to these requests, from this state on
abbrev pub replies_alone : FullState → List Asked → List Reply
replies_alone state [] = []
replies_alone state (asked ∷ rest) = answer asked.mark asked.request state ∷ replies_alone (after asked.mark asked.request state) rest

-- the state in which it ends
abbrev pub state_alone : FullState → List Asked → FullState
state_alone state [] = state
state_alone state (asked ∷ rest) = state_alone (after asked.mark asked.request state) rest

-- each mark is one that the request may have in the state at its position
abbrev pub MarksAreLawful : FullState → List Asked → Type 0
MarksAreLawful state [] = Unit {0}
MarksAreLawful state (asked ∷ rest) = IsLawful asked.mark asked.request state × MarksAreLawful (after asked.mark asked.request state) rest

-- these exchanges are those of the small machine, from this state on
pub record RunsAlone (opened : FullState) (exchanges : List Exchange) : Type 0 where
  pub replies : map (λ e. e.reply) exchanges ≡ replies_alone opened (map asked_in exchanges)
  pub lawful : MarksAreLawful opened (map asked_in exchanges)

-- the state of each organisation, by its name
abbrev pub States : Type 0
States = List ℕ → FullState

-- no organisation is there
abbrev pub nobody : States
nobody name = none

-- what a request of no organisation is answered: as the step says in every state, or the names of all organisations
pub data Outside : Type 0 where
  steps : Request → Outside
  lists : Outside

-- a GET of `/organizations` by the operator that nothing refuses asks for the listing of organisations
abbrev pub is_listing_at : Place → Request → Bool
is_listing_at (Of org route) request = false
is_listing_at Organisations request = is_get request.verb && (is_operator request.caller && is_none (head_refusal request))
is_listing_at LeftOut request = false
is_listing_at NoRoute request = false
is_listing_at (NoMethod org) request = false
is_listing_at NoMemory request = false

-- the request asks for the listing of organisations
abbrev pub is_listing : Request → Bool
is_listing request = is_listing_at request.place request

-- the listing tells who is there, and any other request of no organisation is answered as the step says, whatever the state
abbrev pub outside : Request → Outside
outside request = cond (is_listing request) lists (steps request)

-- the listing of these organisations
abbrev pub listing : List (List ℕ) → Reply
listing names = shown (paths_behind (codes "/organizations/") names)

-- the reply lists the organisations that are there, in the order of their names
pub record Lists (states : States) (reply : Reply) : Type 0 where
  pub names : List (List ℕ)
  pub sorted : IsStrictlySortedBy text_cmp names
  pub there : (name : List ℕ) → list_any (bytes_eq name) names ≡ is_some (states name).state
  pub told : reply ≡ listing names

-- the reply is the one that is due in these states: of a step, the same in every state
abbrev pub IsDue : States → Outside → Reply → Type 0
IsDue states (steps request) reply = (state : FullState) → reply ≡ (step request state).reply
IsDue states lists reply = Lists states reply

-- a request of no organisation is answered in these states, by its mark
abbrev pub IsAnsweredBy : Mark → States → Request → Reply → Type 0
IsAnsweredBy served states request reply = IsDue states (outside request) reply
IsAnsweredBy short states request reply = reply ≡ out_of_memory
IsAnsweredBy down states request reply = ⊥

-- what is of no organisation is answered in these states as it is due
abbrev pub OutsideAnswer : States → Option (List ℕ) → Request → Reply → Type 0
OutsideAnswer states (Some org) request reply = Unit {0}
OutsideAnswer states None request reply = IsAnsweredBy (mark_of reply) states request reply

-- the states that these exchanges leave
abbrev pub states_after : States → List Exchange → States
states_after opened exchanges name = state_alone (opened name) (map asked_in (own name exchanges))

-- each request of no organisation is answered in the states at its position in the stream
abbrev pub OutsideAnswered : States → List Exchange → List Exchange → Type 0
OutsideAnswered opened done [] = Unit {0}
OutsideAnswered opened done (e ∷ rest) =
    OutsideAnswer (states_after opened done) (org_of e.request) e.request e.reply × OutsideAnswered opened (done ++ e ∷ []) rest

-- to each organisation the replies are those of the small machine that is given its own requests alone
pub record Alone (opened : States) (exchanges : List Exchange) : Type 0 where
  pub each : (name : List ℕ) → RunsAlone (opened name) (own name exchanges)
  pub others : OutsideAnswered opened [] exchanges
