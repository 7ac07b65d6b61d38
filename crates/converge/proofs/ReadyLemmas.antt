-- What is on a work list and in the queue is ready.
use Rattle.std.proofs.Common.{◌≡◌, ℕ, zero, suc, ◌<◌, Bool, true, false, not, ◌&&◌, ◌||◌, cond, IsTrue, List, [], ◌∷◌, ◌++◌, length, map, drop, get_or, Option, Some, None, is_some, slice_get, refl, sym, ap, subst, ◌∙◌, arith}
use Rattle.std.specs.List.{list_all, list_any}
use Rattle.std.proofs.lemmas.Bool.{false≢true}
use Rattle.host_acts.specs.Tasks.{Offers, is_acting, needs, needs_by}
use Rattle.host_acts.specs.declared.verdict.Verdict.{Verdict}
use Rattle.host_acts.specs.declared.verdict.Verdict.TheVariants.{UpToDate, Updated, Failed}
use Rattle.host_tree.specs.declared.caps.Caps.{Caps}
use Rattle.notify_queue.specs.Queue.{Queued, has_pair, queue, with_pair}
use Rattle.notify_queue.specs.declared.pair.Pair.{Pair}
use Rattle.resource_core.specs.Plans.{IsSound, Planned, has_action, is_aimed, is_immediate}
use Rattle.resource_core.specs.Types.{row}
use Rattle.resource_core.specs.declared.links.Notification.{Notification}
use Rattle.resource_core.specs.declared.resources.Resource.{Resource}
use Rattle.resource_core.specs.declared.types.Action.{Action}
use Rattle.resource_core.specs.declared.types.Action.TheVariants.{Create, CreateIfMissing, Delete, Nothing}
use Rattle.resource_core.specs.declared.types.ResourceType.{ResourceType}
use Rattle.resource_core.specs.declared.types.ResourceType.TheVariants as kind
use Rattle.converge.specs.Going.{AreReady, AreReadyFires, FiresReady, IsQueueOf, IsReady, left_after}
use Rattle.converge.specs.Needs.{acts_on_link, fires_link, is_link, is_link_there, lacking, needs_links, needs_modes, states_mode}
use Rattle.converge.specs.Pairs.{fire_of, fires_of, now_of, own_fires, own_from, pair_for, pair_of, place_in, place_on}
use Rattle.converge.specs.Settled.{fired_pair}
use Rattle.converge.specs.declared.firing.Fire.{Fire}
use Rattle.converge.specs.declared.firing.Fire.TheVariants.{Now, Later}
use Rattle.converge.specs.declared.outcome.Cap.TheVariants.{Links, Modes}

-- ---- lists

or_left : (a b : Bool) → a ≡ true → (a || b) ≡ true
or_left a b h = ap (λ x. x || b) h

or_right : (a b : Bool) → b ≡ true → (a || b) ≡ true
or_right true b h = refl
or_right false b h = h

and_both : (a b : Bool) → (a && b) ≡ true → (a ≡ true) × (b ≡ true)
and_both true b h = (refl, h)
and_both false b h = absurd (false≢true h)

module _ (plan : Planned) (caps : Caps) where
  pub ready_both : (one other : List Fire) → AreReadyFires plan caps one → AreReadyFires plan caps other → AreReadyFires plan caps (one ++ other)
  ready_both [] other a b = b
  ready_both (fire ∷ one) other a b = (a.0, ready_both one other a.1 b)

  -- what is left once a pair came to a verdict
  pub left_ready : (p : Pair) (verdict : Verdict) (todo : List Fire) → FiresReady plan caps → AreReadyFires plan caps todo → AreReadyFires plan caps (left_after plan p verdict todo)
  left_ready p UpToDate todo fires ready = ready
  left_ready p Updated todo fires ready = ready_both (fires_of plan p) todo (fires p) ready
  left_ready p (Failed cause) todo fires ready = tt

  ready_push : (ps : List Pair) (p : Pair) → AreReady plan caps ps → IsReady plan caps p → AreReady plan caps (ps ++ p ∷ [])
  ready_push [] p a b = (b, tt)
  ready_push (q ∷ ps) p a b = (a.0, ready_push ps p a.1 b)

  ready_with : (ps : List Pair) (p : Pair) → AreReady plan caps ps → IsReady plan caps p → AreReady plan caps (with_pair ps p)
  ready_with ps p a b = by (has_pair ps p)
    where
      by : (c : Bool) → AreReady plan caps (cond c ps (ps ++ p ∷ []))
      by true = a
      by false = ready_push ps p a b

  -- the queue, once a pair was put into it
  pub queue_ready : (old new : Queued) (p : Pair) → IsQueueOf plan caps old → IsReady plan caps p → new ≡ queue p old → IsQueueOf plan caps new
  queue_ready old new p is ready e = subst (λ (q : Queued). IsQueueOf plan caps q) (sym e) (record { size = is.size; ready = ready_with old.ever p is.ready ready })

  -- a pair of the queue is ready
  pub taken_ready : (ps : List Pair) (k : ℕ) (p : Pair) → AreReady plan caps ps → slice_get ps k ≡ Some p → IsReady plan caps p
  taken_ready [] k p a h = cc
  taken_ready (q ∷ ps) zero p a h = let is : q ≡ p = cc in subst (λ (r : Pair). IsReady plan caps r) is a.0
  taken_ready (q ∷ ps) (suc k) p a h = taken_ready ps k p a.1 h

  -- ---- a plan that lacks nothing

  free : (nl cl nm cm : Bool) → cond (nl && not cl) (Some Links) (cond (nm && not cm) (Some Modes) None) ≡ None → (nl ≡ true → IsTrue cl) × (nm ≡ true → IsTrue cm)
  free true true true true h = (λ _. refl, λ _. refl)
  free true true true false h = cc
  free true true false cm h = (λ _. refl, λ e. absurd (false≢true e))
  free true false nm cm h = cc
  free false cl true true h = (λ e. absurd (false≢true e), λ _. refl)
  free false cl true false h = cc
  free false cl false cm h = (λ e. absurd (false≢true e), λ e. absurd (false≢true e))

  small : (k : ResourceType) (a : Action) → place_in k a < 4
  small kind.File Create = omega arith
  small kind.File CreateIfMissing = omega arith
  small kind.File Delete = omega arith
  small kind.File Nothing = omega arith
  small kind.Directory Create = omega arith
  small kind.Directory CreateIfMissing = omega arith
  small kind.Directory Delete = omega arith
  small kind.Directory Nothing = omega arith
  small kind.Link Create = omega arith
  small kind.Link CreateIfMissing = omega arith
  small kind.Link Delete = omega arith
  small kind.Link Nothing = omega arith

  -- the action at the place of an action is that action
  action_back : (k : ResourceType) (a b : Action) → slice_get (row k).actions (place_in k a) ≡ Some b → a ≡ b
  action_back kind.File Create b h = cc
  action_back kind.File CreateIfMissing b h = cc
  action_back kind.File Delete b h = cc
  action_back kind.File Nothing b h = cc
  action_back kind.Directory Create b h = cc
  action_back kind.Directory CreateIfMissing b h = cc
  action_back kind.Directory Delete b h = cc
  action_back kind.Directory Nothing b h = cc
  action_back kind.Link Create b h = cc
  action_back kind.Link CreateIfMissing b h = cc
  action_back kind.Link Delete b h = cc
  action_back kind.Link Nothing b h = cc

  module _ (sound : IsSound plan) (offered : lacking plan caps ≡ None) where
    links_offered : needs_links plan ≡ true → IsTrue caps.links
    links_offered = (free (needs_links plan) caps.links (needs_modes plan) caps.modes offered).0

    modes_offered : needs_modes plan ≡ true → IsTrue caps.modes
    modes_offered = (free (needs_links plan) caps.links (needs_modes plan) caps.modes offered).1

    any_at : {X : Type 0} (test : X → Bool) (xs : List X) (k : ℕ) (x : X) → slice_get xs k ≡ Some x → test x ≡ true → list_any test xs ≡ true
    any_at test [] k x h t = cc
    any_at test (y ∷ ys) zero x h t = let is : y ≡ x = cc in or_left (test y) (list_any test ys) (ap test is ∙ t)
    any_at test (y ∷ ys) (suc k) x h t = or_right (test y) (list_any test ys) (any_at test ys k x h t)

    -- a resource of the plan is offered what an action of it needs, where a link is
    offers_by : (k : ℕ) (r : Resource) (a : Action) → slice_get plan.resources k ≡ Some r → (is_link r.kind ≡ true → is_acting a ≡ true → needs_links plan ≡ true) → Offers caps (needs r a)
    offers_by k r a at link = by r.kind refl
      where
        mode : is_link r.kind ≡ false → is_some r.mode ≡ true → IsTrue caps.modes
        mode is h = modes_offered (any_at states_mode plan.resources k r at (ap (λ b. not b && is_some r.mode) is ∙ h))

        by : (t : ResourceType) → r.kind ≡ t → Offers caps (needs r a)
        by kind.File is = record { links = λ h. absurd (false≢true (sym (ap (λ t. (needs_by t r a).links) is) ∙ h)); modes = λ h. mode (ap is_link is) (sym (ap (λ t. (needs_by t r a).modes) is) ∙ h) }
        by kind.Directory is = record { links = λ h. absurd (false≢true (sym (ap (λ t. (needs_by t r a).links) is) ∙ h)); modes = λ h. mode (ap is_link is) (sym (ap (λ t. (needs_by t r a).modes) is) ∙ h) }
        by kind.Link is = record { links = λ h. links_offered (link (ap is_link is) (sym (ap (λ t. (needs_by t r a).links) is) ∙ h)); modes = λ h. absurd (false≢true (sym (ap (λ t. (needs_by t r a).modes) is) ∙ h)) }

    same_some : {X : Type 0} {x y : X} → Some x ≡ Some y → x ≡ y
    same_some h = cc

    ready_on : (k : ℕ) (r : Resource) (a : Action) → slice_get plan.resources k ≡ Some r → (is_link r.kind ≡ true → is_acting a ≡ true → needs_links plan ≡ true) → IsReady plan caps (pair_of k r a)
    ready_on k r a at link = record {
      within = record { resource = inside plan.resources k r at; action = small r.kind a };
      offered = λ r' b there is.
          let same : r ≡ r' = same_some (sym at ∙ there) in
          let here : slice_get (row r.kind).actions (place_in r.kind a) ≡ Some b = subst (λ (x : Resource). slice_get (row x.kind).actions (place_in r.kind a) ≡ Some b) (sym same) is in
          let act : a ≡ b = action_back r.kind a b here in
          subst (λ (x : Resource). Offers caps (needs x b)) same (subst (λ (x : Action). Offers caps (needs r x)) act (offers_by k r a at link));
    }
      where
        inside : (rs : List Resource) (k : ℕ) (r : Resource) → slice_get rs k ≡ Some r → k < length rs
        inside [] k r h = cc
        inside (x ∷ rs) zero r h = omega arith
        inside (x ∷ rs) (suc k) r h = let less = inside rs k r h in omega arith

    -- the own actions
    own_actions_ready : (k : ℕ) (r : Resource) → slice_get plan.resources k ≡ Some r → (actions : List Action) → ((a : Action) → is_acting a ≡ true → list_any is_acting actions ≡ true → is_link r.kind ≡ true → needs_links plan ≡ true)
        → AreReadyFires plan caps (map now_of (map (pair_of k r) actions))
    own_actions_ready k r at [] link = tt
    own_actions_ready k r at (a ∷ actions) link = (
      ready_on k r a at (λ is acting. link a acting (or_left (is_acting a) (list_any is_acting actions) acting) is),
      own_actions_ready k r at actions (λ b acting any is. link b acting (or_right (is_acting a) (list_any is_acting actions) any) is),
    )

    at_drop : {X : Type 0} (xs : List X) (i : ℕ) (x : X) (more : List X) → drop i xs ≡ x ∷ more → (slice_get xs i ≡ Some x) × (drop (suc i) xs ≡ more)
    at_drop [] zero x more h = cc
    at_drop [] (suc i) x more h = cc
    at_drop (y ∷ ys) zero x more h = (cc, cc)
    at_drop (y ∷ ys) (suc i) x more h = at_drop ys i x more h

    map_both : (one other : List Pair) → map now_of (one ++ other) ≡ map now_of one ++ map now_of other
    map_both [] other = refl
    map_both (p ∷ one) other = ap (λ fs. now_of p ∷ fs) (map_both one other)

    owns_ready : (k : ℕ) (rs : List Resource) → drop k plan.resources ≡ rs → AreReadyFires plan caps (map now_of (own_from k rs))
    owns_ready k [] h = tt
    owns_ready k (r ∷ rs) h =
        let at = at_drop plan.resources k r rs h in
        subst (λ (fs : List Fire). AreReadyFires plan caps fs) (sym (map_both (map (pair_of k r) r.actions) (own_from (suc k) rs)))
        (ready_both (map now_of (map (pair_of k r) r.actions)) (map now_of (own_from (suc k) rs))
        (own_actions_ready k r at.0 r.actions (λ a acting any is. or_left (list_any acts_on_link plan.resources) (list_any (list_any (fires_link plan.resources)) plan.fires)
        (any_at acts_on_link plan.resources k r at.0 (ap (λ b. b && list_any is_acting r.actions) is ∙ any))))
        (owns_ready (suc k) rs at.1))

    pub own_ready : AreReadyFires plan caps (own_fires plan)
    own_ready = owns_ready 0 plan.resources refl

    -- what is notified
    aimed_ready : (n : Notification) → is_aimed plan.resources n ≡ true → (fires_link plan.resources n ≡ true → needs_links plan ≡ true) → IsReady plan caps (pair_for plan.resources n)
    aimed_ready n aimed link = by (slice_get plan.resources n.target) refl
      where
        by : (o : Option Resource) → slice_get plan.resources n.target ≡ o → IsReady plan caps (pair_for plan.resources n)
        by None at = absurd (false≢true (sym (ap (has_action n.action) at) ∙ aimed))
        by (Some r) at =
            let place : pair_for plan.resources n ≡ pair_of n.target r n.action = ap (λ o. record { resource = n.target; action = place_on o n.action }) at in
            subst (λ (p : Pair). IsReady plan caps p) (sym place)
            (ready_on n.target r n.action at (λ is acting. link (ap (λ b. b && is_link_there (slice_get plan.resources n.target)) acting ∙ ap is_link_there at ∙ is)))

    fires_all_ready : (ns : List Notification) → list_all (is_aimed plan.resources) ns ≡ true → (list_any (fires_link plan.resources) ns ≡ true → needs_links plan ≡ true) → AreReadyFires plan caps (map (fire_of plan.resources) ns)
    fires_all_ready [] aimed link = tt
    fires_all_ready (n ∷ ns) aimed link =
        let both = and_both (is_aimed plan.resources n) (list_all (is_aimed plan.resources) ns) aimed in
        let one = aimed_ready n both.0 (λ h. link (or_left (fires_link plan.resources n) (list_any (fires_link plan.resources) ns) h)) in
        (fired (is_immediate n.timer) one, fires_all_ready ns both.1 (λ h. link (or_right (fires_link plan.resources n) (list_any (fires_link plan.resources) ns) h)))
      where
        fired : (b : Bool) → IsReady plan caps (pair_for plan.resources n) → IsReady plan caps (fired_pair (cond b (Now (pair_for plan.resources n)) (Later (pair_for plan.resources n))))
        fired true ready = ready
        fired false ready = ready

    all_at : (nss : List (List Notification)) (k : ℕ) → list_all (list_all (is_aimed plan.resources)) nss ≡ true → list_all (is_aimed plan.resources) (get_or nss k []) ≡ true
    all_at [] k h = refl
    all_at (ns ∷ nss) zero h = (and_both (list_all (is_aimed plan.resources) ns) (list_all (list_all (is_aimed plan.resources)) nss) h).0
    all_at (ns ∷ nss) (suc k) h = all_at nss k (and_both (list_all (is_aimed plan.resources) ns) (list_all (list_all (is_aimed plan.resources)) nss) h).1

    any_within : (nss : List (List Notification)) (k : ℕ) → list_any (fires_link plan.resources) (get_or nss k []) ≡ true → list_any (list_any (fires_link plan.resources)) nss ≡ true
    any_within [] k h = absurd (false≢true h)
    any_within (ns ∷ nss) zero h = or_left (list_any (fires_link plan.resources) ns) (list_any (list_any (fires_link plan.resources)) nss) h
    any_within (ns ∷ nss) (suc k) h = or_right (list_any (fires_link plan.resources) ns) (list_any (list_any (fires_link plan.resources)) nss) (any_within nss k h)

    pub fires_ready : FiresReady plan caps
    fires_ready p = fires_all_ready (get_or plan.fires p.resource []) (all_at plan.fires p.resource sound.notified)
        (λ h. or_right (list_any acts_on_link plan.resources) (list_any (list_any (fires_link plan.resources)) plan.fires) (any_within plan.fires p.resource h))
