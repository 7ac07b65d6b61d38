-- What a change of one organisation does to the states that a shard keeps.
use Rattle.std.proofs.Common.{is_some, ◌≡◌, ◌≢◌, ℕ, zero, suc, ◌<◌, inl, inr, ◌⊎◌, Bool, true, false, cond, List, [], ◌∷◌, length, set, get_or, Option, Some, None, Result, Ok, Err, IsOk, OnOk, sym, ap, subst, refl, ◌∙◌, arith, length-set}
use Rattle.std.specs.Bool.{then_some}
use Rattle.std.specs.List.{slice_get}
use Rattle.std.specs.Option.{option_map_or, ForSome}
use Rattle.std.proofs.lemmas.Bool.{cases_eq, false_from_ne_true}
use Rattle.std.proofs.lemmas.Option.{slice_get_read}
use Rattle.shard_core.specs.declared.shards.Shard.{Shard}
use Rattle.shard_core.specs.Shards.{states_in, shard_of, site_states}
use Rattle.std.specs.Str.{bytes_eq}
use Rattle.std.specs.Cmp.Lexicographic.{bytes_decides, nat_list_eq_equiv}
use Rattle.org_requests.specs.declared.replies.Reply.{Reply}
use Rattle.org_requests.specs.declared.requests.Request.{Request}
use Rattle.org_requests.specs.Requests.{org_of, has_name}
use Rattle.org_core.specs.declared.moves.Move.{Move}
use Rattle.org_core.specs.Moves.{within, after_moves}
use Rattle.org_core.specs.FullStates.{FullState, MeetsFileConditions, none}
use Rattle.org_core.specs.States.{Organisation, State, Kept, state_in}
use Rattle.org_machine.proofs.FileKeepingLemmas.{after_keeps_files}
use Rattle.sandboxes.specs.Files.{Kept as Parts, KeptByName, holding_of, OthersStay}
use Rattle.sandboxes.specs.Sandboxes.{Holding}
use Rattle.org_machine.specs.Steps.{step}
use Rattle.org_machine.specs.Marks.{Mark, served, short, down, mark_of, after}
use Rattle.org_machine.specs.Serving.{state_then}
use Rattle.shard_core.specs.Organisations.{KeptOrganisations, kept_at, state_at, full_of, full_at, kept_if_there}

-- one entry alike is the other
pub some_is : {X : Type 0} (x y : X) → Some x ≡ Some y → x ≡ y
some_is x y same = cc

-- what a request of this organisation does to the state under a name
pub state_then-known : (org name : List ℕ) (request : Request) (reply : Reply) (state : FullState) → org_of request ≡ Some org
    → state_then name request reply state ≡ cond (bytes_eq org name) (after (mark_of reply) request state) state
state_then-known org name request reply state is_org =
    ap (λ b. cond b (after (mark_of reply) request state) state) (ap (has_name name) is_org ∙ nat_list_eq_equiv.symm name org)

other_name : (x y : List ℕ) → bytes_eq x y ≡ false → y ≡ x → ⊥
other_name x y apart same = cc (sym ((bytes_decides x y).1 (sym same)) ∙ apart)

-- the files under a name: those of the organisation, or as before
files_own : (files : KeptByName) (org name : List ℕ) → bytes_eq org name ≡ true → holding_of files name ≡ holding_of files org
files_own files org name same = ap (holding_of files) (sym ((bytes_decides org name).0 same))

files_other : (before now : KeptByName) (org name : List ℕ) → OthersStay org before now → bytes_eq org name ≡ false → holding_of now name ≡ holding_of before name
files_other before now org name stay other = ap (λ (kept : Parts). kept.holding) (stay name (other_name org name other))

-- under one name: its own organisation is as the request leaves it, any other as before
written_under : (own : Bool) (before now new : Option Kept) (had has left : Holding) (full : FullState) (request : Request) (reply : Reply)
    → now ≡ cond own new before
    → (own ≡ true → has ≡ left)
    → (own ≡ false → has ≡ had)
    → (own ≡ true → full_of before had ≡ full)
    → full_of new left ≡ after (mark_of reply) request full
    → full_of now has ≡ cond own (after (mark_of reply) request (full_of before had)) (full_of before had)
written_under true before now new had has left full request reply put is_left stays was step =
    (λ i. full_of (put i) (is_left refl i)) ∙ step ∙ ap (after (mark_of reply) request) (sym (was refl))
written_under false before now new had has left full request reply put is_left stays was step = λ i. full_of (put i) (stays refl i)

-- what is kept under the name of an organisation is replaced, and so are its files
pub states-written : (before now : KeptOrganisations) (files_before files_now : KeptByName) (org : List ℕ) (new : Option Kept) (full : FullState) (request : Request) (reply : Reply)
    → ((name : List ℕ) → kept_at now name ≡ cond (bytes_eq org name) new (kept_at before name))
    → OthersStay org files_before files_now
    → full_at before files_before org ≡ full
    → org_of request ≡ Some org
    → full_of new (holding_of files_now org) ≡ after (mark_of reply) request full
    → (name : List ℕ) → full_at now files_now name ≡ state_then name request reply (full_at before files_before name)
states-written before now files_before files_now org new full request reply put stay had is_org step name =
    written_under (bytes_eq org name) (kept_at before name) (kept_at now name) new (holding_of files_before name) (holding_of files_now name) (holding_of files_now org) full request reply
    (put name) (files_own files_now org name) (files_other files_before files_now org name stay)
    (λ same. ap (full_at before files_before) (sym ((bytes_decides org name).0 same)) ∙ had) step
    ∙ sym (state_then-known org name request reply (full_at before files_before name) is_org)

-- what is kept of an organisation where it is there is its state
if_there : (kept : Kept) (state : State) → state_in kept ≡ state → state_at (cond (is_some state) (Some kept) None) ≡ state
if_there kept None same = refl
if_there kept (Some organisation) same = same

pub state-if_there : (kept : Kept) → state_at (kept_if_there kept) ≡ state_in kept
state-if_there kept = if_there kept (state_in kept) refl

-- and it is there
kept_is_there : (kept : Kept) (state : State) → state_in kept ≡ state → ForSome (cond (is_some state) (Some kept) None) (λ k. state_in k ≢ None)
kept_is_there kept None same k is gone = cc
kept_is_there kept (Some organisation) same k is gone = cc (sym same ∙ ap state_in (some_is kept k is) ∙ gone)

pub there-if_there : (kept : Kept) → ForSome (kept_if_there kept) (λ k. state_in k ≢ None)
there-if_there kept = kept_is_there kept (state_in kept) refl

-- and has its name
kept_has_name : (b : Bool) (kept : Kept) (name : List ℕ) → kept.name ≡ name → ForSome (cond b (Some kept) None) (λ k. k.name ≡ name)
kept_has_name true kept name same k is = subst (λ (x : Kept). x.name ≡ name) (some_is kept k is) same
kept_has_name false kept name same k is = cc

pub named-if_there : (kept : Kept) (name : List ℕ) → kept.name ≡ name → ForSome (kept_if_there kept) (λ k. k.name ≡ name)
named-if_there kept name same = kept_has_name (is_some (state_in kept)) kept name same

-- no move makes an organisation go
moves_keep : (moves : List Move) (organisation : Organisation) → after_moves moves (Some organisation) ≢ None
moves_keep [] organisation gone = absurd (cc)
moves_keep (move ∷ rest) organisation gone = moves_keep rest (within move organisation) gone

moves_stay : (moves : List Move) (state : State) → state ≢ None → after_moves moves state ≢ None
moves_stay moves None there gone = there refl
moves_stay moves (Some organisation) there gone = moves_keep moves organisation gone

-- so one that is there before a request is there after it
pub stays_there : (mark : Mark) (request : Request) (full : FullState) → full.state ≢ None → (after mark request full).state ≢ None
stays_there served request full there gone = moves_stay (step request full).moves full.state there gone
stays_there short request full there gone = there gone
stays_there down request full there gone = there gone

-- a pair that comes back is the one that was given, and comes back where the test holds
pub given-back : (b : Bool) (key k : List ℕ) (state s : Kept) → then_some {T = List ℕ × Kept} b (key, state) ≡ Some (k, s) → (b ≡ true) × (k ≡ key) × (s ≡ state)
given-back true key k state s is =
    let pair = some_is {X = List ℕ × Kept} (key, state) (k, s) is in
    (refl, sym (ap (λ (p : List ℕ × Kept). p.0) pair), sym (ap (λ (p : List ℕ × Kept). p.1) pair))
given-back false key k state s is = let none : ⊥ = cc is in absurd none

pub none-back : (b : Bool) (pair : List ℕ × Kept) → then_some b pair ≡ None → b ≡ false
none-back true pair is = cc
none-back false pair is = refl

none_under : (own : Bool) (before : Option Kept) → (own ≡ true → before ≡ None) → before ≡ cond own None before
none_under true before none = none refl
none_under false before none = refl

-- nothing is kept under the name of an organisation of which nothing was
pub none-kept : (before : KeptOrganisations) (org name : List ℕ) → kept_at before org ≡ None → kept_at before name ≡ cond (bytes_eq org name) None (kept_at before name)
none-kept before org name none = none_under (bytes_eq org name) (kept_at before name) (λ same. ap (kept_at before) (sym ((bytes_decides org name).0 same)) ∙ none)

-- under one name: what was written has the property, and any other as before
each_under : (P : Kept → Type 0) (own : Bool) (before now new : Option Kept) → now ≡ cond own new before → (own ≡ true → ForSome new P) → ForSome before P → ForSome now P
each_under P true before now new put has were kept is = has refl kept (sym put ∙ is)
each_under P false before now new put has were kept is = were kept (sym put ∙ is)

-- all that is kept has a property, once one more that has it was written
pub each-written : (P : List ℕ → Kept → Type 0) (before now : KeptOrganisations) (org : List ℕ) (new : Option Kept)
    → ((name : List ℕ) → kept_at now name ≡ cond (bytes_eq org name) new (kept_at before name))
    → ForSome new (P org)
    → ((name : List ℕ) → ForSome (kept_at before name) (P name))
    → (name : List ℕ) → ForSome (kept_at now name) (P name)
each-written P before now org new put has were name =
    each_under (P name) (bytes_eq org name) (kept_at before name) (kept_at now name) new (put name)
    (λ same. subst (λ (n : List ℕ). ForSome new (P n)) ((bytes_decides org name).0 same) has) (were name)

-- under one name: a request leads from files that meet their conditions to files that do
then_meets : (own : Bool) (request : Request) (reply : Reply) (full : FullState) → MeetsFileConditions full → MeetsFileConditions (cond own (after (mark_of reply) request full) full)
then_meets true request reply full meets = after_keeps_files (mark_of reply) request full meets
then_meets false request reply full meets = meets

-- the files of each organisation meet their conditions after a request
pub conditions-written : (before now : KeptOrganisations) (files_before files_now : KeptByName) (org : List ℕ) (request : Request) (reply : Reply)
    → ((name : List ℕ) → full_at now files_now name ≡ state_then name request reply (full_at before files_before name))
    → org_of request ≡ Some org
    → ((name : List ℕ) → MeetsFileConditions (full_at before files_before name))
    → (name : List ℕ) → MeetsFileConditions (full_at now files_now name)
conditions-written before now files_before files_now org request reply step is_org met name =
    subst MeetsFileConditions (sym (step name ∙ state_then-known org name request reply (full_at before files_before name) is_org))
    (then_meets (bytes_eq org name) request reply (full_at before files_before name) (met name))

-- under one name: where the request leaves its own organisation as it was, each is as it was
then_stays : (own : Bool) (request : Request) (reply : Reply) (at full : FullState) → (own ≡ true → at ≡ full) → after (mark_of reply) request full ≡ full → cond own (after (mark_of reply) request at) at ≡ at
then_stays true request reply at full was stays = ap (after (mark_of reply) request) (was refl) ∙ stays ∙ sym (was refl)
then_stays false request reply at full was stays = refl

pub stays-written : (before now : KeptOrganisations) (files_before files_now : KeptByName) (org : List ℕ) (request : Request) (reply : Reply) (full : FullState)
    → ((name : List ℕ) → full_at now files_now name ≡ state_then name request reply (full_at before files_before name))
    → org_of request ≡ Some org
    → full_at before files_before org ≡ full
    → after (mark_of reply) request full ≡ full
    → (name : List ℕ) → full_at now files_now name ≡ full_at before files_before name
stays-written before now files_before files_now org request reply full step is_org had stays name =
    step name ∙ state_then-known org name request reply (full_at before files_before name) is_org
    ∙ then_stays (bytes_eq org name) request reply (full_at before files_before name) full (λ same. ap (full_at before files_before) (sym ((bytes_decides org name).0 same)) ∙ had) stays

-- what a call that succeeds promises
pub on_ok : {T E P : Type 0} (result : Result T E) → IsOk result → OnOk result P → P
on_ok (Ok value) ok promised = promised
on_ok (Err error) ok promised = absurd (cc)

-- a request of one organisation is of no other
state_then-other : (org name : List ℕ) (request : Request) (reply : Reply) (state : FullState) → org_of request ≡ Some org → org ≢ name
    → state_then name request reply state ≡ state
state_then-other org name request reply state is_org other =
    state_then-known org name request reply state is_org
    ∙ ap (λ b. cond b (after (mark_of reply) request state) state)
    (false_from_ne_true (bytes_eq org name) (λ same. other ((bytes_decides org name).0 same)))

-- the shard at a place, after another was written
get-set_other : (shards : List Shard) (number place : ℕ) (new : Shard) → place ≢ number → slice_get (set shards number new) place ≡ slice_get shards place
get-set_other [] number place new other = refl
get-set_other (s ∷ shards) zero zero new other = absurd (other refl)
get-set_other (s ∷ shards) zero (suc place) new other = refl
get-set_other (s ∷ shards) (suc number) zero new other = refl
get-set_other (s ∷ shards) (suc number) (suc place) new other = get-set_other shards number place new (λ same. other (ap suc same))

-- the shard at a place, after it was written
get-set_same : (shards : List Shard) (number : ℕ) (new : Shard) → number < length shards → slice_get (set shards number new) number ≡ Some new
get-set_same [] number new within = absurd (omega arith)
get-set_same (s ∷ shards) zero new within = refl
get-set_same (s ∷ shards) (suc number) new within = get-set_same shards number new (omega arith)

-- the state that the shard at a place keeps under a name
abbrev kept_by : List ℕ → Option Shard → FullState
kept_by name shard = option_map_or (λ s. states_in s name) shard none

-- the same place, or another one
site_under : (shards : List Shard) (number place : ℕ) (old new : Shard) (org name : List ℕ) (request : Request) (reply : Reply)
    → (number ≡ place) ⊎ (number ≡ place → ⊥)
    → number < length shards
    → old ≡ get_or shards number old
    → (states_in new name ≡ state_then name request reply (states_in old name))
    → ((number ≡ place → ⊥) → state_then name request reply (kept_by name (slice_get shards place)) ≡ kept_by name (slice_get shards place))
    → kept_by name (slice_get (set shards number new) place) ≡ state_then name request reply (kept_by name (slice_get shards place))
site_under shards number place old new org name request reply (inl same) within had step stays =
    let there : slice_get shards number ≡ Some old = slice_get_read shards (length shards) number old refl within had in
    ap (λ k. kept_by name (slice_get (set shards number new) k)) (sym same)
    ∙ ap (kept_by name) (get-set_same shards number new within)
    ∙ step
    ∙ ap (λ o. state_then name request reply (kept_by name o)) (sym there)
    ∙ ap (λ k. state_then name request reply (kept_by name (slice_get shards k))) same
site_under shards number place old new org name request reply (inr other) within had step stays =
    ap (kept_by name) (get-set_other shards number place new (λ same. other (sym same))) ∙ sym (stays other)

-- the state of an organisation is the one that the shard keeps to which it belongs
pub site-read : (shards : List Shard) (number : ℕ) (shard : Shard) (org : List ℕ)
    → number ≡ shard_of org (length shards)
    → number < length shards
    → shard ≡ get_or shards number shard
    → site_states shards org ≡ states_in shard org
site-read shards number shard org belongs within had =
    ap (λ k. kept_by org (slice_get shards k)) (sym belongs) ∙ ap (kept_by org) (slice_get_read shards (length shards) number shard refl within had)

-- one shard of a site is written back after a request of an organisation that belongs to it
pub site-written : (shards : List Shard) (number : ℕ) (old new : Shard) (org : List ℕ) (request : Request) (reply : Reply)
    → number ≡ shard_of org (length shards)
    → number < length shards
    → old ≡ get_or shards number old
    → org_of request ≡ Some org
    → ((name : List ℕ) → states_in new name ≡ state_then name request reply (states_in old name))
    → (name : List ℕ) → site_states (set shards number new) name ≡ state_then name request reply (site_states shards name)
site-written shards number old new org request reply belongs within had is_org step name =
    let place = shard_of name (length shards) in
    ap (λ n. kept_by name (slice_get (set shards number new) (shard_of name n))) (length-set shards number new)
    ∙ site_under shards number place old new org name request reply (cases_eq number place) within had (step name)
    (λ other. state_then-other org name request reply (site_states shards name) is_org
    (λ same. other (belongs ∙ ap (λ n. shard_of n (length shards)) same)))
