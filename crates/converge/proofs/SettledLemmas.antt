-- What runs leave: wants that agree are kept, and on a settled host nothing is done.
use Rattle.std.proofs.Common.{◌≡◌, ◌≢◌, ℕ, ◌==◌, ◌⊎◌, inl, inr, Bool, true, false, ◌&&◌, ◌||◌, List, [], ◌∷◌, ◌++◌, map, Option, Some, None, refl, sym, ap, subst, ◌∙◌, arith}
use Rattle.std.specs.Prelude.{⊤}
use Rattle.std.proofs.lemmas.Bool.{eqb-true, false≢true}
use Rattle.std.proofs.lemmas.List.{append-nil}
use Rattle.host_acts.proofs.KeptLemmas.{agreeing_suit, updates_keep}
use Rattle.host_acts.proofs.TableLemmas.{agreeing_by_table}
use Rattle.host_acts.specs.Acts.{IsDone}
use Rattle.host_acts.specs.Agreeing.{Agrees, HoldsIn}
use Rattle.host_acts.specs.Tasks.{Task, wanted_by}
use Rattle.host_acts.specs.Wants.{Wanted}
use Rattle.host_acts.specs.declared.cause.Cause.{Cause}
use Rattle.host_acts.specs.declared.verdict.Verdict.{Verdict}
use Rattle.host_acts.specs.declared.verdict.Verdict.TheVariants.{UpToDate, Updated, Failed}
use Rattle.host_tree.specs.Entries.{Entries}
use Rattle.notify_queue.specs.Queue.{has_pair, same_pair}
use Rattle.notify_queue.specs.declared.pair.Pair.{Pair}
use Rattle.resource_core.specs.Plans.{Planned}
use Rattle.converge.specs.Pairs.{fires_of, now_of, own, own_fires, task_of}
use Rattle.converge.specs.Runs.{Chain, halts, queues, passes, keeps, updates, fails, Rest, at_first, and_next, Run, failed_or, first_failed}
use Rattle.converge.specs.Settled.{Agree, AreUpToDate, IsSettled, IsStated, own_action, notified, PlansByTableAgree, SettledStays, WellSettles, fired_pair, fired_pairs}
use Rattle.converge.specs.declared.deeds.Deed.{Deed}
use Rattle.converge.specs.declared.firing.Fire.{Fire}
use Rattle.converge.specs.declared.firing.Fire.TheVariants.{Now, Later}

-- ---- pairs on lists

same : (n : ℕ) → (n == n) ≡ true
same n = grind arith

pub or_left : (a b : Bool) → a ≡ true → (a || b) ≡ true
or_left a b h = ap (λ x. x || b) h

pub or_right : (a b : Bool) → b ≡ true → (a || b) ≡ true
or_right true b h = refl
or_right false b h = h

pub or_parts : (a b : Bool) → (a || b) ≡ true → (a ≡ true) ⊎ (b ≡ true)
or_parts true b h = inl refl
or_parts false b h = inr h

and_both : (a b : Bool) → (a && b) ≡ true → (a ≡ true) × (b ≡ true)
and_both true b h = (refl, h)
and_both false b h = absurd (false≢true h)

pub same_itself : (p : Pair) → same_pair p p ≡ true
same_itself p = ap (λ b. b && (p.action == p.action)) (same p.resource) ∙ same p.action

pub same_is : (p q : Pair) → same_pair p q ≡ true → p ≡ q
same_is p q h =
    let both = and_both (p.resource == q.resource) (p.action == q.action) h in
    ap (λ r. record { resource = r; action = p.action }) (eqb-true p.resource q.resource both.0) ∙ ap (λ a. record { resource = q.resource; action = a }) (eqb-true p.action q.action both.1)

-- a pair is to be performed at once
has_now : List Fire → Pair → Bool
has_now [] p = false
has_now (Now q ∷ todo) p = same_pair p q || has_now todo p
has_now (Later q ∷ todo) p = has_now todo p

now_behind : (fires todo : List Fire) (p : Pair) → has_now todo p ≡ true → has_now (fires ++ todo) p ≡ true
unfolding has_now
now_behind [] todo p h = h
now_behind (Now q ∷ fires) todo p h = or_right (same_pair p q) (has_now (fires ++ todo) p) (now_behind fires todo p h)
now_behind (Later q ∷ fires) todo p h = now_behind fires todo p h

now_own : (ps : List Pair) (p : Pair) → has_pair ps p ≡ has_now (map now_of ps) p
unfolding has_now
now_own [] p = refl
now_own (q ∷ ps) p = ap (λ b. same_pair p q || b) (now_own ps p)

-- ---- failures

failed_none : (p : Pair) (verdict : Verdict) (later : Option (Pair × Cause)) → failed_or p verdict later ≡ None → later ≡ None
failed_none p UpToDate later h = h
failed_none p Updated later h = h
failed_none p (Failed cause) later h = cc

well_first : (one other : List Deed) → first_failed (one ++ other) ≡ None → first_failed one ≡ None
well_first [] other h = refl
well_first (act ∷ one) other h = keep act.verdict (well_first one other) h
  where
    keep : (verdict : Verdict) → (first_failed (one ++ other) ≡ None → first_failed one ≡ None) → failed_or act.pair verdict (first_failed (one ++ other)) ≡ None → failed_or act.pair verdict (first_failed one) ≡ None
    keep UpToDate later h = later h
    keep Updated later h = later h
    keep (Failed cause) later h = cc

none≢some : {t : Task} → None ≢ Some t
none≢some h = cc

some_same : {s t : Task} → Some s ≡ Some t → s ≡ t
some_same h = cc

module _ (plan : Planned) where
  -- ---- what is stated

  AreStated : List Fire → Type 0
  AreStated [] = ⊤
  AreStated (fire ∷ more) = IsStated plan (fired_pair fire) × AreStated more

  ArePairsStated : List Pair → Type 0
  ArePairsStated [] = ⊤
  ArePairsStated (p ∷ more) = IsStated plan p × ArePairsStated more

  stated_both : (one other : List Fire) → AreStated one → AreStated other → AreStated (one ++ other)
  unfolding AreStated
  stated_both [] other a b = b
  stated_both (fire ∷ more) other a b = (a.0, stated_both more other a.1 b)

  pairs_both : (one other : List Pair) → ArePairsStated one → ArePairsStated other → ArePairsStated (one ++ other)
  unfolding ArePairsStated
  pairs_both [] other a b = b
  pairs_both (p ∷ more) other a b = (a.0, pairs_both more other a.1 b)

  stated_member : (ps : List Pair) (p : Pair) → ArePairsStated ps → has_pair ps p ≡ true → IsStated plan p
  unfolding ArePairsStated
  stated_member [] p a h = absurd (false≢true h)
  stated_member (q ∷ more) p a h = elim (or_parts (same_pair p q) (has_pair more p) h) [
    | inl is ↦ subst (λ (r : Pair). IsStated plan r) (sym (same_is p q is)) a.0
    | inr later ↦ stated_member more p a.1 later
  ]

  each_stated : (fires : List Fire) → ((p : Pair) → has_pair (fired_pairs fires) p ≡ true → IsStated plan p) → AreStated fires
  unfolding AreStated
  each_stated [] all = tt
  each_stated (fire ∷ more) all = (
    all (fired_pair fire) (or_left (same_pair (fired_pair fire) (fired_pair fire)) (has_pair (fired_pairs more) (fired_pair fire)) (same_itself (fired_pair fire))),
    each_stated more (λ p h. all p (or_right (same_pair p (fired_pair fire)) (has_pair (fired_pairs more) p) h)),
  )

  fires_stated : (by : Pair) → AreStated (fires_of plan by)
  fires_stated by = each_stated (fires_of plan by) (λ p h. notified by h)

  own_stated : AreStated (own_fires plan)
  own_stated = each_stated (own_fires plan) (λ p h. own_action (subst (λ (ps : List Pair). has_pair ps p ≡ true) (pairs_of (own plan)) h))
    where
      pairs_of : (ps : List Pair) → fired_pairs (map now_of ps) ≡ ps
      pairs_of [] = refl
      pairs_of (p ∷ ps) = ap (λ qs. p ∷ qs) (pairs_of ps)

  -- what is queued is stated
  queued_stated : {todo left : List Fire} {host new : Entries} {acts : List Deed} {queued : List Pair} → Chain plan todo host acts queued left new → AreStated todo → ArePairsStated queued
  unfolding AreStated ArePairsStated
  queued_stated halts a = tt
  queued_stated (queues p rest) a = (a.0, queued_stated rest a.1)
  queued_stated (passes p none rest) a = queued_stated rest a.1
  queued_stated (keeps p t is done rest) a = queued_stated rest a.1
  queued_stated (updates {todo = todo} p t is done rest) a = queued_stated rest (stated_both (fires_of plan p) todo (fires_stated p) a.1)
  queued_stated (fails p t cause is done) a = tt

  -- ---- wants that agree are kept

  AgreesWithAll : Wanted → Type 0
  AgreesWithAll w = (p : Pair) (t : Task) → IsStated plan p → task_of plan p ≡ Some t → Agrees w (wanted_by t)

  kept_chain : (w : Wanted) → AgreesWithAll w → {todo left : List Fire} {host new : Entries} {acts : List Deed} {queued : List Pair}
      → Chain plan todo host acts queued left new → AreStated todo → HoldsIn host w → HoldsIn new w
  unfolding AreStated AgreesWithAll
  kept_chain w all halts a holds = holds
  kept_chain w all (queues p rest) a holds = kept_chain w all rest a.1 holds
  kept_chain w all (passes p none rest) a holds = kept_chain w all rest a.1 holds
  kept_chain w all (keeps p t is done rest) a holds = kept_chain w all rest a.1 (subst (λ (h : Entries). HoldsIn h w) (sym done.1) holds)
  kept_chain w all (updates {todo = todo} {host = host} {mid = mid} p t is done rest) a holds =
      kept_chain w all rest (stated_both (fires_of plan p) todo (fires_stated p) a.1) (updates_keep w t host mid (agreeing_suit w (wanted_by t) (all p t a.0 is)) holds done.2)
  kept_chain w all (fails p t cause is done) a holds = subst (λ (h : Entries). HoldsIn h w) (sym done.2) holds

  -- after queued pairs, and these queued what is stated
  kept_rest : (w : Wanted) → AgreesWithAll w → {queued : List Pair} {start : Entries} {list : List Pair} {acts : List Deed} {fired : List Pair} {host : Entries}
      → Rest plan queued start list acts fired host → ArePairsStated queued → HoldsIn start w → HoldsIn host w × ArePairsStated fired
  unfolding AreStated ArePairsStated
  kept_rest w all at_first a holds = (holds, tt)
  kept_rest w all {queued} (and_next {fired = fired} {now = now} p before listed chain) a holds =
      let so_far = kept_rest w all before a holds in
      let stated = stated_member (queued ++ fired) p (pairs_both queued fired a so_far.1) listed in
      (kept_chain w all chain (stated, tt) so_far.0, pairs_both fired now so_far.1 (queued_stated chain (stated, tt)))

  module _ (agree : Agree plan) where
    agrees_with : (p : Pair) (t : Task) → IsStated plan p → task_of plan p ≡ Some t → AgreesWithAll (wanted_by t)
    unfolding AgreesWithAll
    agrees_with p t stated is q s other there = agree p q t s stated other is there

    -- what is to be performed at once holds after a whole chain without a failure
    held_chain : {todo left : List Fire} {host new : Entries} {acts : List Deed} {queued : List Pair} → Chain plan todo host acts queued left new → left ≡ [] → first_failed acts ≡ None → AreStated todo
        → (p : Pair) (t : Task) → has_now todo p ≡ true → task_of plan p ≡ Some t → IsDone new t
    unfolding AreStated has_now
    held_chain halts whole well a p t h is = absurd (false≢true (subst (λ (l : List Fire). has_now l p ≡ true) whole h))
    held_chain (queues q rest) whole well a p t h is = held_chain rest whole well a.1 p t h is
    held_chain (passes {todo = todo} q none rest) whole well a p t h is = elim (or_parts (same_pair p q) (has_now todo p) h) [
      | inl here ↦ let e : p ≡ q = same_is p q here in let none' : task_of plan p ≡ None = ap (task_of plan) e ∙ none in absurd (none≢some (sym none' ∙ is))
      | inr later ↦ held_chain rest whole well a.1 p t later is
    ]
    held_chain (keeps {todo = todo} {mid = mid} q s there done rest) whole well a p t h is = elim (or_parts (same_pair p q) (has_now todo p) h) [
      | inl here ↦
          let e : p ≡ q = same_is p q here in
          let task : task_of plan q ≡ Some t = ap (task_of plan) (sym e) ∙ is in
          let held : IsDone mid t = subst (λ (x : Task). IsDone mid x) (some_same (sym there ∙ task)) (subst (λ (m : Entries). IsDone m s) (sym done.1) done.0) in
          kept_chain (wanted_by t) (agrees_with q t a.0 task) rest a.1 held
      | inr later ↦ held_chain rest whole well a.1 p t later is
    ]
    held_chain (updates {todo = todo} {mid = mid} q s there done rest) whole well a p t h is = elim (or_parts (same_pair p q) (has_now todo p) h) [
      | inl here ↦
          let e : p ≡ q = same_is p q here in
          let task : task_of plan q ≡ Some t = ap (task_of plan) (sym e) ∙ is in
          let held : IsDone mid t = subst (λ (x : Task). IsDone mid x) (some_same (sym there ∙ task)) done.2.done in
          kept_chain (wanted_by t) (agrees_with q t a.0 task) rest (stated_both (fires_of plan q) todo (fires_stated q) a.1) held
      | inr later ↦ held_chain rest whole well (stated_both (fires_of plan q) todo (fires_stated q) a.1) p t (now_behind (fires_of plan q) todo p later) is
    ]
    held_chain (fails q s cause there done) whole well a p t h is = cc

    pub settles : (host new : Entries) (acts : List Deed) → Run plan host acts new → first_failed acts ≡ None → IsSettled plan new
    unfolding has_now
    settles host new acts run well p t h is =
        let well_owns : first_failed run.first ≡ None = well_first run.first run.then (ap first_failed (sym run.acts_are) ∙ well) in
        let now : has_now (own_fires plan) p ≡ true = sym (now_own (own plan) p) ∙ h in
        let held : IsDone run.between t = held_chain run.owns refl well_owns own_stated p t now is in
        (kept_rest (wanted_by t) (agrees_with p t (own_action h) is) run.rest (queued_stated run.owns own_stated) held).0

  -- ---- a settled host

  AreNow : List Fire → Type 0
  AreNow [] = ⊤
  AreNow (Now p ∷ more) = AreNow more
  AreNow (Later p ∷ more) = ⊥

  own_now : (ps : List Pair) → AreNow (map now_of ps)
  unfolding AreNow
  own_now [] = tt
  own_now (p ∷ ps) = own_now ps

  stays_chain : {todo left : List Fire} {host new : Entries} {acts : List Deed} {queued : List Pair} → Chain plan todo host acts queued left new
      → ((p : Pair) (t : Task) → has_now todo p ≡ true → task_of plan p ≡ Some t → IsDone host t) → AreNow todo → AreUpToDate acts × (queued ≡ []) × (new ≡ host)
  unfolding AreNow has_now
  stays_chain halts held now = (tt, refl, refl)
  stays_chain (queues p rest) held now = absurd now
  stays_chain (passes {todo = todo} q none rest) held now = stays_chain rest (λ p t h is. held p t (or_right (same_pair p q) (has_now todo p) h) is) now
  stays_chain (keeps {todo = todo} {host = host} {mid = mid} q s there done rest) held now =
      let later = stays_chain rest (λ p t h is. subst (λ (m : Entries). IsDone m t) (sym done.1) (held p t (or_right (same_pair p q) (has_now todo p) h) is)) now in
      ((refl, later.0), later.1, later.2 ∙ done.1)
  stays_chain (updates {todo = todo} q s there done rest) held now = absurd (done.0 (held q s (or_left (same_pair q q) (has_now todo q) (same_itself q)) there))
  stays_chain (fails {todo = todo} q s cause there done) held now = absurd (done.0 (held q s (or_left (same_pair q q) (has_now todo q) (same_itself q)) there))

  rest_empty : {queued : List Pair} {start : Entries} {list : List Pair} {acts : List Deed} {fired : List Pair} {host : Entries} → Rest plan queued start list acts fired host → queued ≡ [] → (acts ≡ []) × (fired ≡ []) × (host ≡ start)
  rest_empty at_first e = (refl, refl, refl)
  rest_empty {queued} (and_next {fired = fired} p before listed chain) e =
      let so_far = rest_empty before e in
      let none : queued ++ fired ≡ [] = ap (λ (ps : List Pair). ps ++ fired) e ∙ so_far.1 in
      absurd (false≢true (subst (λ (ps : List Pair). has_pair ps p ≡ true) none listed))

  pub stays : (host new : Entries) (acts : List Deed) → IsSettled plan host → Run plan host acts new → AreUpToDate acts × (new ≡ host)
  stays host new acts settled run =
      let owns = stays_chain run.owns (λ p t h is. settled p t (now_own (own plan) p ∙ h) is) (own_now (own plan)) in
      let later = rest_empty run.rest owns.1 in
      let all : acts ≡ run.first = run.acts_are ∙ ap (λ (xs : List Deed). run.first ++ xs) later.0 ∙ append-nil run.first in
      (subst (λ (xs : List Deed). AreUpToDate xs) (sym all) owns.0, later.2 ∙ owns.2)

pub well_settles : WellSettles
well_settles plan host new acts agree run well = settles plan agree host new acts run well

pub settled_stays : SettledStays
settled_stays plan host new acts settled run = stays plan host new acts settled run

pub plans_by_table_agree : PlansByTableAgree
plans_by_table_agree plan agree p q s t stated also is there = agreeing_by_table (wanted_by s) (wanted_by t) (agree p q s t stated also is there)
