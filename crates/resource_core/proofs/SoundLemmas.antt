-- The actions of a plan are those of its resources' types.
use Rattle.std.proofs.Common.{◌≡◌, ℕ, suc, Bool, true, false, cond, ◌||◌, List, [], ◌∷◌, ◌++◌, length, slice_get, Option, Some, None, option_map, option_and_then, Result, Ok, Err, refl, sym, ap, subst, ◌∙◌, bytes_eq, codes}
use Rattle.std.specs.List.{AllByRecursion, find, list_all, list_any}
use Rattle.std.proofs.lemmas.Bool.{and_from}
use Rattle.std.proofs.lemmas.List.Folds.{list_all-append}
use Rattle.doc_tree.specs.Text.{text_of}
use Rattle.doc_tree.specs.Doc.{Doc, null, boolean, whole, words, list, dict, docs_list, Pairs}
use Rattle.doc_tree.specs.Part.{pair_at}
use Rattle.resource_core.specs.Drafts.{Given, acting, attributed, creates, draft, drafts, placed, typed, unless, valued}
use Rattle.resource_core.specs.Links.{action_on, fired, heard, meant}
use Rattle.resource_core.specs.Outcomes.{each_of, or_fault, then_do}
use Rattle.host_tree.specs.Paths.{is_normal}
use Rattle.resource_core.specs.Plans.{all_resources, given, has_action, has_own_actions, is_action_of, is_aimed, same_action}
use Rattle.resource_core.specs.Links.{fires_of}
use Rattle.resource_core.specs.Resources.{action_of, actions_in, are_known, path_of, resource, type_in}
use Rattle.resource_core.specs.Settling.{IsResolved}
use Rattle.resource_core.specs.Types.{action_in, properties, row, word_of}
use Rattle.resource_core.specs.Values.{first_bad, first_missing}
use Rattle.resource_core.specs.declared.entries.Entry.{Entry}
use Rattle.resource_core.specs.declared.fault.CompileFault.{CompileFault}
use Rattle.resource_core.specs.declared.fault.CompileFault.TheVariants as fault
use Rattle.resource_core.specs.declared.links.Heard.{Heard}
use Rattle.resource_core.specs.declared.links.Notification.{Notification}
use Rattle.resource_core.specs.declared.resources.Resource.{Resource}
use Rattle.resource_core.specs.declared.types.Action.{Action}
use Rattle.resource_core.specs.declared.types.Action.TheVariants.{Create, CreateIfMissing, Delete, Nothing}
use Rattle.resource_core.specs.declared.types.ResourceType.{ResourceType}
use Rattle.resource_core.specs.declared.types.ResourceType.TheVariants.{File, Directory, Link}
use Rattle.resource_core.proofs.PlanLemmas.{EachSo, fires_all, or_ok, resolved_fires, same_ok, then_ok}

same_itself : (a : Action) → same_action a a ≡ true
same_itself Create = refl
same_itself CreateIfMissing = refl
same_itself Delete = refl
same_itself Nothing = refl

-- what is found is one of those
find_member : (test : Action → Bool) (all : List Action) (a : Action) → find test all ≡ Some a → list_any (same_action a) all ≡ true
find_member test [] a h = cc h
find_member test (x ∷ all) a h = by_test (λ k. find_member test all a k) (test x) h
  where
    or_true : (b c : Bool) → c ≡ true → (b || c) ≡ true
    or_true true c k = refl
    or_true false c k = k

    by_test : (find test all ≡ Some a → list_any (same_action a) all ≡ true) → (b : Bool) → cond b (Some x) (find test all) ≡ Some a → (same_action a x || list_any (same_action a) all) ≡ true
    by_test later true k = let same : x ≡ a = cc k in subst (λ y. (same_action a y || list_any (same_action a) all) ≡ true) (sym same) (rw (same_itself a) refl)
    by_test later false k = or_true (same_action a x) (list_any (same_action a) all) (later k)

named_action : (kind : ResourceType) (word : List ℕ) (a : Action) → action_in kind word ≡ Some a → is_action_of kind a ≡ true
named_action kind word a h = find_member (λ action. bytes_eq (word_of action) word) (row kind).actions a h

stated_action : (kind : ResourceType) (d : Doc) (a : Action) → action_of kind d ≡ Some a → is_action_of kind a ≡ true
stated_action kind d a h = by_text (text_of d) h
  where
    by_text : (found : Option (List ℕ)) → option_and_then (action_in kind) found ≡ Some a → is_action_of kind a ≡ true
    by_text None k = cc k
    by_text (Some word) k = named_action kind word a k

some_is : {A : Type 0} {x y : A} → Some x ≡ Some y → x ≡ y
some_is h = cc h

-- what is made of each, if something is of each
each_actions : (kind : ResourceType) (ds : List Doc) (actions : List Action) → each_of (action_of kind) ds ≡ Some actions → list_all (is_action_of kind) actions ≡ true
each_actions kind [] actions h = subst (λ xs. list_all (is_action_of kind) xs ≡ true) (some_is h) refl
each_actions kind (d ∷ ds) actions h = by_first (λ xs k. each_actions kind ds xs k) (action_of kind d) refl h
  where
    by_rest : (a : Action) → is_action_of kind a ≡ true → (later : Option (List Action)) → ((xs : List Action) → later ≡ Some xs → list_all (is_action_of kind) xs ≡ true) → option_map (λ xs. a ∷ xs) later ≡ Some actions → list_all (is_action_of kind) actions ≡ true
    by_rest a is None so k = cc k
    by_rest a is (Some xs) so k = subst (λ ys. list_all (is_action_of kind) ys ≡ true) (some_is k) (and_from (is_action_of kind a) (list_all (is_action_of kind) xs) is (so xs refl))

    by_first : ((xs : List Action) → each_of (action_of kind) ds ≡ Some xs → list_all (is_action_of kind) xs ≡ true) → (found : Option Action) → action_of kind d ≡ found
        → option_and_then (λ a. option_map (λ xs. a ∷ xs) (each_of (action_of kind) ds)) found ≡ Some actions → list_all (is_action_of kind) actions ≡ true
    by_first so None is k = cc k
    by_first so (Some a) is k = by_rest a (stated_action kind d a is) (each_of (action_of kind) ds) so k

own_actions : (kind : ResourceType) (found : Option Doc) (actions : List Action) → actions_in kind found ≡ Some actions → list_all (is_action_of kind) actions ≡ true
own_actions File None actions h = subst (λ xs. list_all (is_action_of File) xs ≡ true) (some_is h) refl
own_actions Directory None actions h = subst (λ xs. list_all (is_action_of Directory) xs ≡ true) (some_is h) refl
own_actions Link None actions h = subst (λ xs. list_all (is_action_of Link) xs ≡ true) (some_is h) refl
own_actions kind (Some null) actions h = cc h
own_actions kind (Some (boolean b)) actions h = cc h
own_actions kind (Some (whole z)) actions h = cc h
own_actions kind (Some (words w)) actions h = one (action_in kind w) refl h
  where
    one : (found : Option Action) → action_in kind w ≡ found → option_map (λ a. a ∷ []) found ≡ Some actions → list_all (is_action_of kind) actions ≡ true
    one None is k = cc k
    one (Some a) is k = subst (λ xs. list_all (is_action_of kind) xs ≡ true) (some_is k) (and_from (is_action_of kind a) true (named_action kind w a is) refl)
own_actions kind (Some (list ds)) actions h = each_actions kind (docs_list ds) actions h
own_actions kind (Some (dict ps)) actions h = cc h

pub if_ok : {A : Type 0} (b : Bool) (f : CompileFault) (next : Result A CompileFault) (x : A) → cond b next (Err f) ≡ Ok x → next ≡ Ok x
if_ok true f next x h = h
if_ok false f next x h = cc h

unless_ok : {X A : Type 0} (make : X → CompileFault) (found : Option X) (next : Result A CompileFault) (x : A) → unless make found next ≡ Ok x → next ≡ Ok x
unless_ok make None next x h = h
unless_ok make (Some y) next x h = cc h

-- a resource that is drafted has actions of its type
draft_actions : (g : Given) (made : List Resource) (ps : Pairs) (r : Resource) → draft g made ps ≡ Ok r → has_own_actions r ≡ true
draft_actions g made ps r h =
    let kind = then_ok (or_fault (fault.UnknownType (length made)) (type_in ps)) (typed g made ps) r h in
    let actions = then_ok (or_fault (fault.UnknownAction (length made)) (actions_in kind.0 (pair_at (codes "action") ps))) (acting g made kind.0 ps) r kind.2 in
    let last = if_ok (is_normal (path_of g.attributes kind.0 ps)) (fault.PathNotNormal (length made)) (Ok (resource g.attributes kind.0 actions.0 ps)) r
    (unless_ok (fault.MissingAttribute (length made)) (first_missing g.attributes ps (properties kind.0)) (placed g made kind.0 actions.0 ps) r
    (unless_ok (fault.BadValue (length made)) (first_bad g.attributes (creates g made kind.0 actions.0 ps) ps (properties kind.0)) (attributed g made kind.0 actions.0 ps) r
    (if_ok (are_known kind.0 ps) (fault.UnknownProperty (length made)) (valued g made kind.0 actions.0 ps) r actions.2))) in
    subst (λ x. has_own_actions x ≡ true) (same_ok last)
    (own_actions kind.0 (pair_at (codes "action") ps) actions.0 (or_ok (fault.UnknownAction (length made)) (actions_in kind.0 (pair_at (codes "action") ps)) actions.0 actions.1))

drafts_actions : (g : Given) (all : List Pairs) (made rs : List Resource) → list_all has_own_actions made ≡ true → drafts g all made ≡ Ok rs → list_all has_own_actions rs ≡ true
drafts_actions g [] made rs so h = subst (λ xs. list_all has_own_actions xs ≡ true) (same_ok h) so
drafts_actions g (ps ∷ all) made rs so h =
    let one = then_ok (draft g made ps) (λ r. drafts g all (made ++ r ∷ [])) rs h in
    drafts_actions g all (made ++ one.0 ∷ []) rs
    (list_all-append has_own_actions made (one.0 ∷ []) ∙ and_from (list_all has_own_actions made) (list_all has_own_actions (one.0 ∷ [])) so (and_from (has_own_actions one.0) true (draft_actions g made ps one.0 one.1) refl)) one.2

pub own_sound : (rs : List Resource) (fires : List (List Notification)) → IsResolved rs fires → list_all has_own_actions rs ≡ true
own_sound rs fires r =
    let drafted = then_ok (drafts (given r.recipes r.attributes) (all_resources r.recipes) []) (λ all. then_do (fires_of all) (λ fires. Ok (all, fires))) (rs, fires) r.resolves in
    let linked = then_ok (fires_of drafted.0) (λ fires. Ok (drafted.0, fires)) (rs, fires) drafted.2 in
    subst (λ xs. list_all has_own_actions xs ≡ true) (ap (λ (p : List Resource × List (List Notification)). p.0) (same_ok linked.2))
    (drafts_actions (given r.recipes r.attributes) (all_resources r.recipes) [] drafted.0 refl drafted.1)

module _ (all : List Resource) where
  -- an action on a place is one of the type of the resource there
  action_aimed : (e : Entry) (place : ℕ) (n : Notification) → action_on all e place ≡ Some n → is_aimed all n ≡ true
  action_aimed e place n h = at_place (slice_get all place) refl h
    where
      named : (r : Resource) (found : Option Action) → slice_get all place ≡ Some r → action_in r.kind e.action ≡ found
          → option_map (λ action. (let m : Notification = record { action = action; target = place; timer = e.timer } in m)) found ≡ Some n → is_aimed all n ≡ true
      named r None is names h = cc h
      named r (Some action) is names h =
          subst (λ (m : Notification). is_aimed all m ≡ true) (some_is h) (ap (has_action action) is ∙ named_action r.kind e.action action names)

      at_place : (found : Option Resource) → slice_get all place ≡ found
          → option_and_then (λ (r : Resource). option_map (λ action. (let m : Notification = record { action = action; target = place; timer = e.timer } in m)) (action_in r.kind e.action)) found ≡ Some n → is_aimed all n ≡ true
      at_place None is h = cc h
      at_place (Some r) is h = named r (action_in r.kind e.action) is refl h

  fired_aimed : (e : Entry) (n : Notification) → fired all e ≡ Some n → is_aimed all n ≡ true
  fired_aimed e n h = by_place (meant all e.resource) h
    where
      by_place : (found : Option ℕ) → option_and_then (action_on all e) found ≡ Some n → is_aimed all n ≡ true
      by_place None h = cc h
      by_place (Some place) h = action_aimed e place n h

  heard_aimed : (place : ℕ) (e : Entry) (x : Heard) → heard all place e ≡ Some x → is_aimed all x.fire ≡ true
  heard_aimed place e x h = by_place (meant all e.resource) h
    where
      made : (by : ℕ) (found : Option Notification) → action_on all e place ≡ found → option_map (λ fire. (let y : Heard = record { by = by; fire = fire } in y)) found ≡ Some x → is_aimed all x.fire ≡ true
      made by None is h = cc h
      made by (Some fire) is h = subst (λ (y : Heard). is_aimed all y.fire ≡ true) (some_is h) (action_aimed e place fire is)

      by_place : (found : Option ℕ) → option_and_then (λ by. option_map (λ fire. (let y : Heard = record { by = by; fire = fire } in y)) (action_on all e place)) found ≡ Some x → is_aimed all x.fire ≡ true
      by_place None h = cc h
      by_place (Some by) h = made by (action_on all e place) refl h

  each_fired : (es : List Entry) → AllByRecursion (λ e. (n : Notification) → fired all e ≡ Some n → is_aimed all n ≡ true) es
  each_fired [] = tt
  each_fired (e ∷ es) = ((λ n h. fired_aimed e n h), each_fired es)

  each_heard : (place : ℕ) (es : List Entry) → AllByRecursion (λ e. (x : Heard) → heard all place e ≡ Some x → is_aimed all x.fire ≡ true) es
  each_heard place [] = tt
  each_heard place (e ∷ es) = ((λ x h. heard_aimed place e x h), each_heard place es)

  each_aimed : (place : ℕ) (rs : List Resource) → EachSo all (is_aimed all) place rs
  each_aimed place [] = tt
  each_aimed place (r ∷ rs) = (each_fired r.notifies, each_heard place r.subscribes, each_aimed (suc place) rs)

pub notified_sound : (rs : List Resource) (fires : List (List Notification)) → IsResolved rs fires → list_all (list_all (is_aimed rs)) fires ≡ true
notified_sound rs fires r = (fires_all rs (is_aimed rs) fires (each_aimed rs 0 rs) (resolved_fires rs fires r)).0
