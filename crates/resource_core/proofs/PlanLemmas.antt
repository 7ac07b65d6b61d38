-- What was resolved, and what plans keep of it.
use Rattle.std.proofs.Common.{◌≡◌, ℕ, zero, suc, ◌+◌, ◌<◌, ◌==◌, inl, inr, Bool, true, false, cond, nat_lt, List, [], ◌∷◌, ◌++◌, map, length, drop, get_or, slice_get, Option, Some, None, option_map, option_and_then, Result, Ok, Err, refl, sym, ap, ap₂, subst, ◌∙◌, append_assoc, bytes_eq, codes, arith}
use Rattle.std.specs.List.{AllByRecursion, filter, list_all, list_any}
use Rattle.std.proofs.lemmas.Bool.{and_from, and_parts, false≢true, lt-ltb}
use Rattle.std.proofs.lemmas.List.{drop_more, length-append, length-map}
use Rattle.std.proofs.lemmas.List.Folds.{list_all-append}
use Rattle.std.specs.BTreeSet.{BTreeSet}
use Rattle.doc_tree.specs.Doc.{Doc, Pairs}
use Rattle.doc_tree.specs.Part.{pair_at}
use Rattle.doc_tree.specs.declared.tree.Tree.{Tree}
use Rattle.resource_core.specs.Drafting.{given_with}
use Rattle.resource_core.specs.Drafts.{Given, acting, attributed, creates, draft, drafts, placed, titles, typed, unless, valued}
use Rattle.resource_core.specs.Entries.{created}
use Rattle.resource_core.specs.Graph.{IsOnCycle, OnCycles, are_within}
use Rattle.resource_core.specs.Searching.{is_set}
use Rattle.resource_core.proofs.GraphLemmas.{kept_on_cycles, kept_some}
use Rattle.host_tree.specs.Paths.{is_normal}
use Rattle.resource_core.specs.Plans.{Compiles, Planned, Refuses, all_resources, given, is_immediate, nexts, nexts_of, resolved}
use Rattle.resource_core.specs.Titles.{HasTitles}
use Rattle.resource_core.specs.Values.{first_bad, first_missing}
use Rattle.resource_core.specs.Links.{Links, action_on, each_entry, fired, fires_from, fires_of, heard, heard_of, link, links, meant}
use Rattle.resource_core.specs.Outcomes.{Fails, or_fault, then_do}
use Rattle.resource_core.specs.Resources.{actions_in, are_known, path_of, resource, title_of, type_in}
use Rattle.resource_core.specs.Settling.{IsResolved, Settles, kept}
use Rattle.resource_core.specs.Types.{action_in, properties}
use Rattle.resource_core.specs.declared.types.Action.{Action}
use Rattle.resource_core.specs.declared.entries.Entry.{Entry}
use Rattle.resource_core.specs.declared.fault.CompileFault.{CompileFault}
use Rattle.resource_core.specs.declared.fault.CompileFault.TheVariants as fault
use Rattle.resource_core.specs.declared.links.Heard.{Heard}
use Rattle.resource_core.specs.declared.links.Notification.{Notification}
use Rattle.resource_core.specs.declared.resources.Resource.{Resource}

-- one more place
pub names_more : (names after : List (List ℕ)) (flags : List Bool) (rs : List Resource) (i : ℕ) (flag : Bool) (r : Resource) → i < length flags → i < length rs → flag ≡ get_or flags i false → r ≡ get_or rs i r
    → after ≡ cond flag (names ++ title_of r ∷ []) names → names ++ kept (drop i flags) (titles (drop i rs)) ≡ kept flags (titles rs)
    → after ++ kept (drop (i + 1) flags) (titles (drop (i + 1) rs)) ≡ kept flags (titles rs)
names_more names after flags rs i flag r in_flags in_rs is_flag is pushed so_far = by_flag flag (sym is_flag) pushed
  where
    rest : List (List ℕ)
    rest = kept (drop (i + 1) flags) (titles (drop (i + 1) rs))

    here : (f : Bool) → get_or flags i false ≡ f → kept (drop i flags) (titles (drop i rs)) ≡ kept (f ∷ drop (i + 1) flags) (title_of r ∷ titles (drop (i + 1) rs))
    here f e =
        ap₂ (λ (fs : List Bool) (xs : List (List ℕ)). kept fs xs) (drop_more flags i false in_flags ∙ ap (λ g. g ∷ drop (i + 1) flags) e)
        (ap titles (drop_more rs i r in_rs) ∙ ap (λ (x : Resource). title_of x ∷ titles (drop (i + 1) rs)) (sym is))

    by_flag : (f : Bool) → get_or flags i false ≡ f → after ≡ cond f (names ++ title_of r ∷ []) names → after ++ kept (drop (i + 1) flags) (titles (drop (i + 1) rs)) ≡ kept flags (titles rs)
    by_flag true e p = ap (λ ns. ns ++ kept (drop (i + 1) flags) (titles (drop (i + 1) rs))) p ∙ append_assoc names (title_of r ∷ []) (kept (drop (i + 1) flags) (titles (drop (i + 1) rs))) ∙ ap (λ ks. names ++ ks) (sym (here true e)) ∙ so_far
    by_flag false e p = ap (λ ns. ns ++ kept (drop (i + 1) flags) (titles (drop (i + 1) rs))) p ∙ ap (λ ks. names ++ ks) (sym (here false e)) ∙ so_far

pub same_ok : {A : Type 0} {x y : A} → (let l : Result A CompileFault = Ok x in l) ≡ Ok y → x ≡ y
same_ok h = cc h

-- what a step gives, and what the next one makes of it
pub then_ok : {A B : Type 0} (first : Result A CompileFault) (next : A → Result B CompileFault) (y : B) → then_do first next ≡ Ok y → (x : A) × (first ≡ Ok x) × (next x ≡ Ok y)
then_ok (Ok x) next y h = (x, refl, h)
then_ok (Err f) next y h = cc h

pub or_ok : {A : Type 0} (f : CompileFault) (found : Option A) (x : A) → or_fault f found ≡ Ok x → found ≡ Some x
or_ok f None x h = cc h
or_ok f (Some y) x h = ap Some (same_ok h)

-- what is so of what each entry makes is so of all that is made
each_all : {B : Type 0} (make : Entry → Option B) (P : B → Bool) (place : ℕ) (es : List Entry) (made : List B) → AllByRecursion (λ e. (x : B) → make e ≡ Some x → P x ≡ true) es → each_entry make place es ≡ Ok made → list_all P made ≡ true
each_all make P place [] made all h = subst (λ xs. list_all P xs ≡ true) (same_ok h) refl
each_all make P place (e ∷ es) made all h =
    let first = then_ok (or_fault (fault.NoSuchResource place e.resource) (make e)) (λ x. then_do (each_entry make place es) (λ xs. Ok (x ∷ xs))) made h in
    let rest = then_ok (each_entry make place es) (λ xs. Ok (first.0 ∷ xs)) made first.2 in
    subst (λ xs. list_all P xs ≡ true) (same_ok rest.2)
    (and_from (P first.0) (list_all P rest.0) (all.0 first.0 (or_ok (fault.NoSuchResource place e.resource) (make e) first.0 first.1)) (each_all make P place es rest.0 all.1 rest.1))

module _ (all : List Resource) (P : Notification → Bool) where
  -- it is so of what each of these resources notifies and hears, from a place on
  abbrev pub EachSo : ℕ → List Resource → Type 0
  EachSo place [] = Unit {0}
  EachSo place (r ∷ rs) =
      AllByRecursion (λ e. (n : Notification) → fired all e ≡ Some n → P n ≡ true) r.notifies
      × AllByRecursion (λ e. (h : Heard) → heard all place e ≡ Some h → P h.fire ≡ true) r.subscribes
      × EachSo (suc place) rs

  -- so it is of all links
  abbrev pub AreSo : Links → Type 0
  AreSo made = (list_all (list_all P) made.own ≡ true) × (list_all (λ (h : Heard). P h.fire) made.all_heard ≡ true)

  links_so : (rs : List Resource) (made done : Links) → EachSo (length made.own) rs → AreSo made → links all rs made ≡ Ok done → AreSo done × (length done.own ≡ length made.own + length rs)
  links_so [] made done each so h = (subst AreSo (same_ok h) so, ap (λ (l : Links). length l.own) (sym (same_ok h)) ∙ omega arith)
  links_so (r ∷ rs) made done each so h =
      let one = then_ok (link all r made) (links all rs) done h in
      let own = then_ok (each_entry (fired all) (length made.own) r.notifies)
      (λ own. then_do (each_entry (heard all (length made.own)) (length made.own) r.subscribes) (λ more. Ok (let l : Links = record { own = made.own ++ own ∷ []; all_heard = made.all_heard ++ more } in l))) one.0 one.1 in
      let more = then_ok (each_entry (heard all (length made.own)) (length made.own) r.subscribes) (λ more. Ok (let l : Links = record { own = made.own ++ own.0 ∷ []; all_heard = made.all_heard ++ more } in l)) one.0 own.2 in
      let next : Links = record { own = made.own ++ own.0 ∷ []; all_heard = made.all_heard ++ more.0 } in
      let longer : length next.own ≡ suc (length made.own) = length-append made.own (own.0 ∷ []) ∙ omega arith in
      let here : AreSo next = (
        list_all-append (list_all P) made.own (own.0 ∷ []) ∙ and_from (list_all (list_all P) made.own) (list_all (list_all P) (own.0 ∷ [])) so.0 (and_from (list_all P own.0) true (each_all (fired all) P (length made.own) r.notifies own.0 each.0 own.1) refl),
        list_all-append (λ (h : Heard). P h.fire) made.all_heard more.0
            ∙ and_from (list_all (λ (h : Heard). P h.fire) made.all_heard) (list_all (λ (h : Heard). P h.fire) more.0) so.1 (each_all (heard all (length made.own)) (λ (h : Heard). P h.fire) (length made.own) r.subscribes more.0 each.1 more.1),
      ) in
      let rest = links_so rs next done (subst (λ n. EachSo n rs) (sym longer) each.2) here (ap (links all rs) (same_ok more.2) ∙ one.2) in
      (rest.0, rest.1 ∙ omega (arith, longer))

  heard_so : (place : ℕ) (hs : List Heard) → list_all (λ (h : Heard). P h.fire) hs ≡ true → list_all P (heard_of place hs) ≡ true
  heard_so place [] so = refl
  heard_so place (h ∷ hs) so = by_test (h.by == place) (heard_so place hs (and_parts (P h.fire) (list_all (λ (h : Heard). P h.fire) hs) so).1)
    where
      by_test : (b : Bool) → list_all P (heard_of place hs) ≡ true → list_all P (map (λ (h : Heard). h.fire) (cond b (h ∷ filter (λ (h : Heard). h.by == place) hs) (filter (λ (h : Heard). h.by == place) hs))) ≡ true
      by_test true rest = and_from (P h.fire) (list_all P (heard_of place hs)) (and_parts (P h.fire) (list_all (λ (h : Heard). P h.fire) hs) so).0 rest
      by_test false rest = rest

  fires_so : (place : ℕ) (own : List (List Notification)) (hs : List Heard) → list_all (list_all P) own ≡ true → list_all (λ (h : Heard). P h.fire) hs ≡ true
      → (list_all (list_all P) (fires_from place own hs) ≡ true) × (length (fires_from place own hs) ≡ length own)
  fires_so place [] hs so heard_all = (refl, refl)
  fires_so place (o ∷ own) hs so heard_all =
      let parts = and_parts (list_all P o) (list_all (list_all P) own) so in
      let rest = fires_so (suc place) own hs parts.1 heard_all in (
        and_from (list_all P (o ++ heard_of place hs)) (list_all (list_all P) (fires_from (suc place) own hs))
            (list_all-append P o (heard_of place hs) ∙ and_from (list_all P o) (list_all P (heard_of place hs)) parts.0 (heard_so place hs heard_all)) rest.0,
        omega (arith, rest.1),
      )

  -- what is so of each notification is so of all that is fired, by each resource
  pub fires_all : (fires : List (List Notification)) → EachSo 0 all → fires_of all ≡ Ok fires → (list_all (list_all P) fires ≡ true) × (length fires ≡ length all)
  fires_all fires each h =
      let start : Links = record { own = []; all_heard = [] } in
      let made = then_ok (links all all start) (λ made. Ok (fires_from 0 made.own made.all_heard)) fires h in
      let so = links_so all start made.0 each (refl, refl) made.1 in
      let result = fires_so 0 made.0.own made.0.all_heard so.0.0 so.0.1 in
      let same = same_ok made.2 in
      (ap (list_all (list_all P)) (sym same) ∙ result.0, ap length (sym same) ∙ result.1 ∙ so.1 ∙ omega arith)

abbrev target_or : Option Notification → ℕ → ℕ
target_or None d = d
target_or (Some m) d = m.target

abbrev heard_target : Option Heard → ℕ → ℕ
heard_target None d = d
heard_target (Some h) d = h.fire.target

-- an action on a place is on a resource that is there
action_within : (all : List Resource) (e : Entry) (place : ℕ) (n : Notification) → action_on all e place ≡ Some n → nat_lt n.target (length all) ≡ true
action_within all e place n h = at_place (slice_get all place) refl h
  where
    within : (rs : List Resource) (i : ℕ) (r : Resource) → slice_get rs i ≡ Some r → i < length rs
    within [] i r is = cc is
    within (x ∷ rs) zero r is = omega arith
    within (x ∷ rs) (suc i) r is = let less = within rs i r is in omega arith

    targeted : (r : Resource) (found : Option Action) → slice_get all place ≡ Some r → option_map (λ action. (let m : Notification = record { action = action; target = place; timer = e.timer } in m)) found ≡ Some n → nat_lt n.target (length all) ≡ true
    targeted r None is h = cc h
    targeted r (Some action) is h =
        let less = within all place r is in
        let same : place ≡ n.target = ap (λ (o : Option Notification). target_or o place) h in
        subst (λ t. nat_lt t (length all) ≡ true) same (lt-ltb _ _ less)

    at_place : (found : Option Resource) → slice_get all place ≡ found
        → option_and_then (λ (r : Resource). option_map (λ action. (let m : Notification = record { action = action; target = place; timer = e.timer } in m)) (action_in r.kind e.action)) found ≡ Some n → nat_lt n.target (length all) ≡ true
    at_place None is h = cc h
    at_place (Some r) is h = targeted r (action_in r.kind e.action) is h

module _ (all : List Resource) where
  fired_within : (e : Entry) (n : Notification) → fired all e ≡ Some n → nat_lt n.target (length all) ≡ true
  fired_within e n h = by_place (meant all e.resource) h
    where
      by_place : (found : Option ℕ) → option_and_then (action_on all e) found ≡ Some n → nat_lt n.target (length all) ≡ true
      by_place None h = cc h
      by_place (Some place) h = action_within all e place n h

  heard_within : (place : ℕ) (e : Entry) (x : Heard) → heard all place e ≡ Some x → nat_lt x.fire.target (length all) ≡ true
  heard_within place e x h = by_place (meant all e.resource) h
    where
      made : (by : ℕ) (found : Option Notification) → action_on all e place ≡ found → option_map (λ fire. (let y : Heard = record { by = by; fire = fire } in y)) found ≡ Some x → nat_lt x.fire.target (length all) ≡ true
      made by None is h = cc h
      made by (Some fire) is h =
          let same : fire.target ≡ x.fire.target = ap (λ (o : Option Heard). heard_target o 0) h in
          subst (λ t. nat_lt t (length all) ≡ true) same (action_within all e place fire is)

      by_place : (found : Option ℕ) → option_and_then (λ by. option_map (λ fire. (let y : Heard = record { by = by; fire = fire } in y)) (action_on all e place)) found ≡ Some x → nat_lt x.fire.target (length all) ≡ true
      by_place None h = cc h
      by_place (Some by) h = made by (action_on all e place) refl h

  each_fired : (es : List Entry) → AllByRecursion (λ e. (n : Notification) → fired all e ≡ Some n → nat_lt n.target (length all) ≡ true) es
  each_fired [] = tt
  each_fired (e ∷ es) = ((λ n h. fired_within e n h), each_fired es)

  each_heard : (place : ℕ) (es : List Entry) → AllByRecursion (λ e. (x : Heard) → heard all place e ≡ Some x → nat_lt x.fire.target (length all) ≡ true) es
  each_heard place [] = tt
  each_heard place (e ∷ es) = ((λ x h. heard_within place e x h), each_heard place es)

  each_within : (place : ℕ) (rs : List Resource) → EachSo all (λ n. nat_lt n.target (length all)) place rs
  each_within place [] = tt
  each_within place (r ∷ rs) = (each_fired r.notifies, each_heard place r.subscribes, each_within (suc place) rs)

targets_within : (count : ℕ) (fires : List (List Notification)) → list_all (list_all (λ (n : Notification). nat_lt n.target count)) fires ≡ true → are_within count (nexts fires) ≡ true
targets_within count [] so = refl
targets_within count (fs ∷ fires) so =
    let parts = and_parts (list_all (λ (n : Notification). nat_lt n.target count) fs) (list_all (list_all (λ (n : Notification). nat_lt n.target count)) fires) so in
    and_from (list_all (λ next. nat_lt next count) (nexts_of fs)) (are_within count (nexts fires)) (each fs parts.0) (targets_within count fires parts.1)
  where
    each : (fs : List Notification) → list_all (λ (n : Notification). nat_lt n.target count) fs ≡ true → list_all (λ next. nat_lt next count) (nexts_of fs) ≡ true
    each [] so = refl
    each (n ∷ fs) so = by_timer (is_immediate n.timer) (each fs (and_parts (nat_lt n.target count) (list_all (λ (n : Notification). nat_lt n.target count) fs) so).1)
      where
        by_timer : (b : Bool) → list_all (λ next. nat_lt next count) (nexts_of fs) ≡ true
            → list_all (λ next. nat_lt next count) (map (λ (n : Notification). n.target) (cond b (n ∷ filter (λ (n : Notification). is_immediate n.timer) fs) (filter (λ (n : Notification). is_immediate n.timer) fs))) ≡ true
        by_timer true rest = and_from (nat_lt n.target count) (list_all (λ next. nat_lt next count) (nexts_of fs)) (and_parts (nat_lt n.target count) (list_all (λ (n : Notification). nat_lt n.target count) fs) so).0 rest
        by_timer false rest = rest

-- what was resolved
pub resolved_fires : (rs : List Resource) (fires : List (List Notification)) → IsResolved rs fires → fires_of rs ≡ Ok fires
resolved_fires rs fires r =
    let drafted = then_ok (drafts (given r.recipes r.attributes) (all_resources r.recipes) []) (λ all. then_do (fires_of all) (λ fires. Ok (all, fires))) (rs, fires) r.resolves in
    let linked = then_ok (fires_of drafted.0) (λ fires. Ok (drafted.0, fires)) (rs, fires) drafted.2 in
    let same = same_ok linked.2 in
    ap fires_of (sym (ap (λ p. p.0) same)) ∙ linked.1 ∙ ap (λ (p : List Resource × List (List Notification)). (let o : Result (List (List Notification)) CompileFault = Ok p.1 in o)) same

pub fires_each : (rs : List Resource) (fires : List (List Notification)) → IsResolved rs fires → length fires ≡ length rs
fires_each rs fires r = (fires_all rs (λ n. nat_lt n.target (length rs)) fires (each_within rs 0 rs) (resolved_fires rs fires r)).1

-- immediate notifications lead to resources that are there
pub nexts_within : (rs : List Resource) (fires : List (List Notification)) → IsResolved rs fires → are_within (length (nexts fires)) (nexts fires) ≡ true
nexts_within rs fires r =
    let so = fires_all rs (λ n. nat_lt n.target (length rs)) fires (each_within rs 0 rs) (resolved_fires rs fires r) in
    let same : length rs ≡ length (nexts fires) = sym (length-map fires nexts_of ∙ so.1) in
    ap (λ n. are_within n (nexts fires)) (sym same) ∙ targets_within (length rs) fires so.0

-- no step but the last finds a cycle
abbrev pub is_of_cycle : CompileFault → Bool
is_of_cycle (fault.UnknownType p) = false
is_of_cycle (fault.UnknownAction p) = false
is_of_cycle (fault.UnknownProperty p) = false
is_of_cycle (fault.BadValue p t) = false
is_of_cycle (fault.MissingAttribute p t) = false
is_of_cycle (fault.PathNotNormal p) = false
is_of_cycle (fault.NoSuchResource p t) = false
is_of_cycle (fault.ImmediateCycle ts) = true
is_of_cycle fault.NoMemory = false

abbrev pub IsPlain : {A : Type 0} → Result A CompileFault → Type 0
IsPlain (Ok x) = Unit {0}
IsPlain (Err f) = is_of_cycle f ≡ false

plain_then : {A B : Type 0} (first : Result A CompileFault) (next : A → Result B CompileFault) → IsPlain first → ((x : A) → IsPlain (next x)) → IsPlain (then_do first next)
plain_then (Ok x) next a b = b x
plain_then (Err f) next a b = a

plain_or : {A : Type 0} (f : CompileFault) (found : Option A) → is_of_cycle f ≡ false → IsPlain (or_fault f found)
plain_or f None p = p
plain_or f (Some x) p = tt

plain_if : {A : Type 0} (b : Bool) (f : CompileFault) (next : Result A CompileFault) → is_of_cycle f ≡ false → IsPlain next → IsPlain (cond b next (Err f))
plain_if true f next p q = q
plain_if false f next p q = p

plain_unless : {X A : Type 0} (make : X → CompileFault) (found : Option X) (next : Result A CompileFault) → ((x : X) → is_of_cycle (make x) ≡ false) → IsPlain next → IsPlain (unless make found next)
plain_unless make None next p q = q
plain_unless make (Some x) next p q = p x

plain_draft : (g : Given) (made : List Resource) (ps : Pairs) → IsPlain (draft g made ps)
plain_draft g made ps =
    plain_then (or_fault (fault.UnknownType (length made)) (type_in ps)) (typed g made ps) (plain_or (fault.UnknownType (length made)) (type_in ps) refl)
    (λ kind. plain_then (or_fault (fault.UnknownAction (length made)) (actions_in kind (pair_at (codes "action") ps))) (acting g made kind ps) (plain_or (fault.UnknownAction (length made)) (actions_in kind (pair_at (codes "action") ps)) refl)
    (λ actions. plain_if (are_known kind ps) (fault.UnknownProperty (length made)) (valued g made kind actions ps) refl
    (plain_unless (fault.BadValue (length made)) (first_bad g.attributes (creates g made kind actions ps) ps (properties kind)) (attributed g made kind actions ps) (λ x. refl)
    (plain_unless (fault.MissingAttribute (length made)) (first_missing g.attributes ps (properties kind)) (placed g made kind actions ps) (λ x. refl)
    (plain_if (is_normal (path_of g.attributes kind ps)) (fault.PathNotNormal (length made)) (Ok (resource g.attributes kind actions ps)) refl tt)))))

plain_drafts : (g : Given) (all : List Pairs) (made : List Resource) → IsPlain (drafts g all made)
plain_drafts g [] made = tt
plain_drafts g (ps ∷ all) made = plain_then (draft g made ps) (λ r. drafts g all (made ++ r ∷ [])) (plain_draft g made ps) (λ r. plain_drafts g all (made ++ r ∷ []))

plain_each : {B : Type 0} (make : Entry → Option B) (place : ℕ) (es : List Entry) → IsPlain (each_entry make place es)
plain_each make place [] = tt
plain_each make place (e ∷ es) =
    plain_then (or_fault (fault.NoSuchResource place e.resource) (make e)) (λ x. then_do (each_entry make place es) (λ xs. Ok (x ∷ xs))) (plain_or (fault.NoSuchResource place e.resource) (make e) refl)
    (λ x. plain_then (each_entry make place es) (λ xs. Ok (x ∷ xs)) (plain_each make place es) (λ xs. tt))

plain_links : (all rs : List Resource) (made : Links) → IsPlain (links all rs made)
plain_links all [] made = tt
plain_links all (r ∷ rs) made =
    plain_then (link all r made) (links all rs)
    (plain_then (each_entry (fired all) (length made.own) r.notifies)
    (λ own. then_do (each_entry (heard all (length made.own)) (length made.own) r.subscribes) (λ more. Ok (let l : Links = record { own = made.own ++ own ∷ []; all_heard = made.all_heard ++ more } in l)))
    (plain_each (fired all) (length made.own) r.notifies)
    (λ own. plain_then (each_entry (heard all (length made.own)) (length made.own) r.subscribes) (λ more. Ok (let l : Links = record { own = made.own ++ own ∷ []; all_heard = made.all_heard ++ more } in l))
    (plain_each (heard all (length made.own)) (length made.own) r.subscribes) (λ more. tt)))
    (λ next. plain_links all rs next)

plain_fires : (all : List Resource) → IsPlain (fires_of all)
plain_fires all = plain_then (links all all (record { own = []; all_heard = [] })) (λ made. Ok (fires_from 0 made.own made.all_heard)) (plain_links all all (record { own = []; all_heard = [] })) (λ made. tt)

plain_resolved : (recipes : List Tree) (attributes : Doc) → IsPlain (resolved recipes attributes)
plain_resolved recipes attributes =
    plain_then (drafts (given recipes attributes) (all_resources recipes) []) (λ all. then_do (fires_of all) (λ fires. Ok (all, fires))) (plain_drafts (given recipes attributes) (all_resources recipes) [])
    (λ all. plain_then (fires_of all) (λ fires. Ok (all, fires)) (plain_fires all) (λ fires. tt))

-- a fault that was resolved is the first one
pub refuses : (recipes : List Tree) (attributes : Doc) (f : CompileFault) → Fails f (resolved recipes attributes) → Refuses recipes attributes f
refuses recipes attributes (fault.UnknownType p) h = h
refuses recipes attributes (fault.UnknownAction p) h = h
refuses recipes attributes (fault.UnknownProperty p) h = h
refuses recipes attributes (fault.BadValue p t) h = h
refuses recipes attributes (fault.MissingAttribute p t) h = h
refuses recipes attributes (fault.PathNotNormal p) h = h
refuses recipes attributes (fault.NoSuchResource p t) h = h
refuses recipes attributes fault.NoMemory h = h
refuses recipes attributes (fault.ImmediateCycle ts) (inl e) = cc e
refuses recipes attributes (fault.ImmediateCycle ts) (inr e) = absurd (false≢true (sym (subst IsPlain e (plain_resolved recipes attributes))))

-- memory may be wanting at any step
pub fails_memory : {A : Type 0} (outcome : Result A CompileFault) → Fails fault.NoMemory outcome
fails_memory outcome = inl refl

-- a fault of the resources, or of what they fire
pub fails_drafts : (recipes : List Tree) (attributes : Doc) (f : CompileFault) → Fails f (drafts (given recipes attributes) (all_resources recipes) []) → Fails f (resolved recipes attributes)
fails_drafts recipes attributes f (inl e) = inl e
fails_drafts recipes attributes f (inr e) = inr (ap (λ first. then_do first (λ all. then_do (fires_of all) (λ fires. Ok (all, fires)))) e)

pub fails_fires : (recipes : List Tree) (attributes : Doc) (rs : List Resource) (f : CompileFault) → drafts (given recipes attributes) (all_resources recipes) [] ≡ Ok rs → Fails f (fires_of rs) → Fails f (resolved recipes attributes)
fails_fires recipes attributes rs f drafted (inl e) = inl e
fails_fires recipes attributes rs f drafted (inr e) = inr (ap (λ first. then_do first (λ all. then_do (fires_of all) (λ fires. Ok (all, fires)))) drafted ∙ ap (λ first. then_do first (λ fires. Ok (rs, fires))) e)

pub resolves_both : (recipes : List Tree) (attributes : Doc) (rs : List Resource) (fires : List (List Notification)) → drafts (given recipes attributes) (all_resources recipes) [] ≡ Ok rs → fires_of rs ≡ Ok fires → resolved recipes attributes ≡ Ok (rs, fires)
resolves_both recipes attributes rs fires drafted linked = ap (λ first. then_do first (λ all. then_do (fires_of all) (λ fires. Ok (all, fires)))) drafted ∙ ap (λ first. then_do first (λ fires. Ok (rs, fires))) linked

-- what resources are read by
pub given_same : (recipes : List Tree) (attributes : Doc) (set : BTreeSet (List ℕ)) (all : List Pairs) → HasTitles (created all) set → all ≡ all_resources recipes → given_with attributes set ≡ given recipes attributes
given_same recipes attributes set all has same = λ i. record {
  attributes = attributes;
  is_created = λ title. (has title ∙ ap (λ xs. list_any (bytes_eq title) (created xs)) same) i;
}

-- the plan, or its cycles
pub compiles : (recipes : List Tree) (attributes : Doc) (rs : List Resource) (fires : List (List Notification)) (result : Result Planned CompileFault) → resolved recipes attributes ≡ Ok (rs, fires) → Settles rs fires result → Compiles recipes attributes result
compiles recipes attributes rs fires (Ok plan) resolves (same_rs, same_fires, none) =
    record {
      resolves = resolves ∙ (λ i. Ok (sym same_rs i, sym same_fires i));
      no_cycle = subst (λ fs. (place : ℕ) → IsOnCycle (nexts fs) place → ⊥) (sym same_fires) none;
    }
compiles recipes attributes rs fires (Err (fault.ImmediateCycle names)) resolves (cycles, some) = record { resources = rs; fires = fires; resolves = resolves; on_cycles = cycles; some = some }
compiles recipes attributes rs fires (Err (fault.UnknownType p)) resolves h = inl h
compiles recipes attributes rs fires (Err (fault.UnknownAction p)) resolves h = inl h
compiles recipes attributes rs fires (Err (fault.UnknownProperty p)) resolves h = inl h
compiles recipes attributes rs fires (Err (fault.BadValue p t)) resolves h = inl h
compiles recipes attributes rs fires (Err (fault.MissingAttribute p t)) resolves h = inl h
compiles recipes attributes rs fires (Err (fault.PathNotNormal p)) resolves h = inl h
compiles recipes attributes rs fires (Err (fault.NoSuchResource p t)) resolves h = inl h
compiles recipes attributes rs fires (Err fault.NoMemory) resolves h = inl refl

-- those on cycles are named, and there is one
pub cycles_named : (ways : List (List ℕ)) (flags : List Bool) (ts names : List (List ℕ)) → length ts ≡ length flags → length flags ≡ length ways
    → ((p : ℕ) → p < length ways → (is_set flags p ≡ true → IsOnCycle ways p) × (IsOnCycle ways p → is_set flags p ≡ true)) → list_any (λ b. b) flags ≡ true → names ≡ kept flags ts
    → OnCycles ways 0 ts names × (names ≡ [] → ⊥)
cycles_named ways flags ts names same lengths tells any is = (
  subst (λ ns. OnCycles ways 0 ts ns) (sym is) (kept_on_cycles ways flags ts 0 same (λ p less. shifted p (tells p (omega arith)))),
  λ none. kept_some ways flags ts same any (sym is ∙ none),
)
  where
    shifted : (p : ℕ) → (is_set flags p ≡ true → IsOnCycle ways p) × (IsOnCycle ways p → is_set flags p ≡ true) → (is_set flags p ≡ true → IsOnCycle ways (0 + p)) × (IsOnCycle ways (0 + p) → is_set flags p ≡ true)
    shifted p h = let e : p ≡ 0 + p = omega arith in subst (λ q. (is_set flags p ≡ true → IsOnCycle ways q) × (IsOnCycle ways q → is_set flags p ≡ true)) e h
