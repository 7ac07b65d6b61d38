-- A run is determined by the plan and the host.
use Rattle.std.proofs.Common.{◌≡◌, ◌⊎◌, inl, inr, Bool, true, false, cond, List, [], ◌∷◌, ◌++◌, Some, None, refl, sym, ap, subst, ◌∙◌}
use Rattle.std.proofs.lemmas.Bool.{false≢true}
use Rattle.std.proofs.lemmas.List.{append-nil, append_assoc}
use Rattle.std.proofs.lemmas.List.Folds.{list_any-append}
use Rattle.host_acts.proofs.SameLemmas.{acts_determined}
use Rattle.host_acts.specs.Acts.{Act}
use Rattle.host_acts.specs.Tasks.{Task}
use Rattle.host_acts.specs.declared.verdict.Verdict.{Verdict}
use Rattle.host_acts.specs.declared.verdict.Verdict.TheVariants.{UpToDate, Updated, Failed}
use Rattle.host_tree.specs.Entries.{Entries}
use Rattle.notify_queue.proofs.FirstsLemmas.{with_pairs-append}
use Rattle.notify_queue.specs.Queue.{firsts, has_pair, same_pair, with_pair, with_pairs}
use Rattle.notify_queue.specs.declared.pair.Pair.{Pair}
use Rattle.resource_core.specs.Plans.{Planned}
use Rattle.converge.proofs.SettledLemmas.{or_left, or_parts, or_right, same_is, same_itself}
use Rattle.converge.specs.Determined.{RunsAreDetermined}
use Rattle.converge.specs.Going.{left_after}
use Rattle.converge.specs.Pairs.{task_of}
use Rattle.converge.specs.Reports.{lines_of, whole_report}
use Rattle.converge.specs.Runs.{Chain, halts, queues, passes, keeps, updates, fails, Rest, at_first, and_next, Run, deed}
use Rattle.converge.specs.declared.deeds.Deed.{Deed}
use Rattle.converge.specs.declared.firing.Fire.{Fire}
use Rattle.converge.specs.declared.firing.Fire.TheVariants.{Now, Later}

-- ---- chains

-- what a work list that begins with a pair to be performed comes to: the pair has nothing to be done, or its act and then what is left
data Next (plan : Planned) (p : Pair) (todo : List Fire) (host : Entries) (acts : List Deed) (queued : List Pair) (left : List Fire) (new : Entries) : Type 0 where
  nothing : task_of plan p ≡ None → Chain plan todo host acts queued left new → Next plan p todo host acts queued left new
  performed : (t : Task) (verdict : Verdict) (mid : Entries) (more : List Deed) → task_of plan p ≡ Some t → Act host t verdict mid → acts ≡ deed p verdict ∷ more → Chain plan (left_after plan p verdict todo) mid more queued left new
      → Next plan p todo host acts queued left new

-- what a work list comes to, by its front
abbrev NextOf : Planned → List Fire → Entries → List Deed → List Pair → List Fire → Entries → Type 0
NextOf plan [] host acts queued left new = (acts ≡ []) × (queued ≡ []) × (new ≡ host)
NextOf plan (Later p ∷ todo) host acts queued left new = (more : List Pair) × (queued ≡ p ∷ more) × Chain plan todo host acts more left new
NextOf plan (Now p ∷ todo) host acts queued left new = Next plan p todo host acts queued left new

next_of : (plan : Planned) → {work left : List Fire} {host new : Entries} {acts : List Deed} {queued : List Pair} → Chain plan work host acts queued left new → left ≡ [] → NextOf plan work host acts queued left new
next_of plan (halts {todo = todo} {host = host}) whole = subst (λ (w : List Fire). NextOf plan w host [] [] w host) (sym whole) (refl, refl, refl)
next_of plan (queues {queued = queued} p rest) whole = (queued, refl, rest)
next_of plan (passes p none rest) whole = nothing none rest
next_of plan (keeps {mid = mid} {acts = acts} p t is done rest) whole = performed t UpToDate mid acts is done refl rest
next_of plan (updates {mid = mid} {acts = acts} p t is done rest) whole = performed t Updated mid acts is done refl rest
next_of plan (fails {new = new} p t cause is done) whole = performed t (Failed cause) new [] is done refl halts

-- two come to the same
record SameEnd (a b : List Deed) (q r : List Pair) (n m : Entries) : Type 0 where
  acts : a ≡ b
  queued : q ≡ r
  host : n ≡ m

none_task : {P : Type 0} (t : Task) → None ≡ Some t → P
none_task t is = cc

one_task : (s t : Task) → Some s ≡ Some t → s ≡ t
one_task s t is = cc

module _ (plan : Planned) where
  -- from an act on
  after : (p : Pair) (t : Task) (verdict : Verdict) (todo : List Fire) (host mid new m : Entries) (acts b : List Deed) (queued r : List Pair) → task_of plan p ≡ Some t → Act host t verdict mid
      → ((more : List Deed) → Chain plan (left_after plan p verdict todo) mid more r [] m → SameEnd acts more queued r new m) → Next plan p todo host b r [] m → SameEnd (deed p verdict ∷ acts) b queued r new m
  after p t verdict todo host mid new m acts b queued r is done then (nothing none chain) = none_task t (sym none ∙ is)
  after p t verdict todo host mid new m acts b queued r is done then (performed s other between more there also acts_are chain) =
      let task : s ≡ t = one_task s t (sym there ∙ is) in
      let same = acts_determined host between mid t other verdict (subst (λ (x : Task). Act host x other between) task also) done in
      let rest = then more
      (subst (λ (v : Verdict). Chain plan (left_after plan p v todo) mid more r [] m) same.0 (subst (λ (h : Entries). Chain plan (left_after plan p other todo) h more r [] m) same.1 chain)) in
      record {
        acts = ap (λ (xs : List Deed). deed p verdict ∷ xs) rest.acts ∙ sym (acts_are ∙ ap (λ (v : Verdict). deed p v ∷ more) same.0);
        queued = rest.queued;
        host = rest.host;
      }

  -- from a pair on that has nothing to be done
  passed : (p : Pair) (todo : List Fire) (host new m : Entries) (acts b : List Deed) (queued r : List Pair) → task_of plan p ≡ None
      → (Chain plan todo host b r [] m → SameEnd acts b queued r new m) → Next plan p todo host b r [] m → SameEnd acts b queued r new m
  passed p todo host new m acts b queued r none then (nothing also chain) = then chain
  passed p todo host new m acts b queued r none then (performed t verdict mid more is done acts_are chain) = none_task t (sym none ∙ is)

  ended : (host m : Entries) (b : List Deed) (r : List Pair) → NextOf plan [] host b r [] m → SameEnd [] b [] r host m
  ended host m b r e = record { acts = sym e.0; queued = sym e.1; host = sym e.2 }

  same_chain : {work left : List Fire} {host new : Entries} {acts : List Deed} {queued : List Pair} → Chain plan work host acts queued left new → left ≡ [] → (b : List Deed) (r : List Pair) (m : Entries) → Chain plan work host b r [] m
      → SameEnd acts b queued r new m
  same_chain (halts {todo = todo} {host = host}) whole b r m other = ended host m b r (subst (λ (w : List Fire). NextOf plan w host b r [] m) whole (next_of plan other refl))
  same_chain (queues p rest) whole b r m other =
      let e = next_of plan other refl in
      let same = same_chain rest whole b e.0 m e.2 in
      record { acts = same.acts; queued = ap (λ (qs : List Pair). p ∷ qs) same.queued ∙ sym e.1; host = same.host }
  same_chain (passes {todo = todo} {host = host} {new = new} {acts = acts} {queued = queued} p none rest) whole b r m other =
      passed p todo host new m acts b queued r none (λ chain. same_chain rest whole b r m chain) (next_of plan other refl)
  same_chain (keeps {todo = todo} {host = host} {mid = mid} {new = new} {acts = acts} {queued = queued} p t is done rest) whole b r m other =
      after p t UpToDate todo host mid new m acts b queued r is done (λ more chain. same_chain rest whole more r m chain) (next_of plan other refl)
  same_chain (updates {todo = todo} {host = host} {mid = mid} {new = new} {acts = acts} {queued = queued} p t is done rest) whole b r m other =
      after p t Updated todo host mid new m acts b queued r is done (λ more chain. same_chain rest whole more r m chain) (next_of plan other refl)
  same_chain (fails {todo = todo} {host = host} {new = new} p t cause is done) whole b r m other =
      after p t (Failed cause) todo host new new m [] b [] r is done (λ more chain. ended new m more r (next_of plan chain refl)) (next_of plan other refl)

-- ---- first occurrences

-- where two parted lists are one, the part in front of the one is in front of the other's mark, or has it
split : (front tail list : List Pair) (p : Pair) (behind : List Pair) → front ++ tail ≡ list ++ p ∷ behind
    → ((x : List Pair) × (list ≡ front ++ x) × (tail ≡ x ++ p ∷ behind)) ⊎ ((waiting : List Pair) × (front ≡ list ++ p ∷ waiting))
split [] tail list p behind is = inl (list, refl, is)
split (q ∷ front) tail [] p behind is = let first : q ≡ p = cc in inr (front, ap (λ (x : Pair). x ∷ front) first)
split (q ∷ front) tail (r ∷ list) p behind is =
    let first : q ≡ r = cc in
    let rest : front ++ tail ≡ list ++ p ∷ behind = cc in
    elim (split front tail list p behind rest) [
      | inl h ↦ inl (h.0, ap (λ (xs : List Pair). r ∷ xs) h.1 ∙ ap (λ (x : Pair). x ∷ (front ++ h.0)) (sym first), h.2)
      | inr h ↦ inr (h.0, ap (λ (x : Pair). x ∷ front) first ∙ ap (λ (xs : List Pair). r ∷ xs) h.1)
    ]

front_one : (seen : List Pair) (q : Pair) → (tail : List Pair) × (with_pair seen q ≡ seen ++ tail)
front_one seen q = by (has_pair seen q)
  where
    by : (b : Bool) → (tail : List Pair) × (cond b seen (seen ++ q ∷ []) ≡ seen ++ tail)
    by true = ([], sym (append-nil seen))
    by false = (q ∷ [], refl)

-- what was seen stays in front
front_of : (seen qs : List Pair) → (tail : List Pair) × (with_pairs seen qs ≡ seen ++ tail)
front_of seen [] = ([], sym (append-nil seen))
front_of seen (q ∷ qs) =
    let rest = front_of (with_pair seen q) qs in
    let one = front_one seen q in
    (one.0 ++ rest.0, rest.1 ∙ ap (λ (s : List Pair). s ++ rest.0) one.1 ∙ append_assoc seen one.0 rest.0)

stays_among : (seen qs : List Pair) (p : Pair) → has_pair seen p ≡ true → has_pair (with_pairs seen qs) p ≡ true
stays_among seen qs p h =
    let front = front_of seen qs in
    ap (λ (ps : List Pair). has_pair ps p) front.1 ∙ list_any-append (same_pair p) seen front.0 ∙ or_left (has_pair seen p) (has_pair front.0 p) h

put_among : (seen : List Pair) (q : Pair) → has_pair (with_pair seen q) q ≡ true
put_among seen q = by (has_pair seen q) refl
  where
    by : (b : Bool) → has_pair seen q ≡ b → has_pair (cond b seen (seen ++ q ∷ [])) q ≡ true
    by true h = h
    by false h = list_any-append (same_pair q) seen (q ∷ []) ∙ or_right (has_pair seen q) (has_pair (q ∷ []) q) (or_left (same_pair q q) false (same_itself q))

-- what occurs has a first occurrence
occurs_first : (seen qs : List Pair) (p : Pair) → has_pair qs p ≡ true → has_pair (with_pairs seen qs) p ≡ true
occurs_first seen [] p h = absurd (false≢true h)
occurs_first seen (q ∷ qs) p h = elim (or_parts (same_pair p q) (has_pair qs p) h) [
  | inl is ↦ stays_among (with_pair seen q) qs p (subst (λ (x : Pair). has_pair (with_pair seen q) x ≡ true) (sym (same_is p q is)) (put_among seen q))
  | inr later ↦ occurs_first (with_pair seen q) qs p later
]

-- nothing is on the list twice
abbrev IsOnce : List Pair → Type 0
IsOnce seen = (list : List Pair) (p : Pair) (behind : List Pair) → seen ≡ list ++ p ∷ behind → has_pair list p ≡ false

none_once : IsOnce []
none_once [] p behind is = cc
none_once (q ∷ list) p behind is = cc

one_once : (seen : List Pair) (q : Pair) → IsOnce seen → has_pair seen q ≡ false → IsOnce (seen ++ q ∷ [])
one_once seen q once fresh list p behind is = elim (split seen (q ∷ []) list p behind is) [ inl h ↦ last h.0 h.1 h.2 | inr h ↦ once list p h.0 h.1 ]
  where
    last : (x : List Pair) → list ≡ seen ++ x → q ∷ [] ≡ x ++ p ∷ behind → has_pair list p ≡ false
    last [] same at =
        let first : q ≡ p = cc in
        ap (λ (ps : List Pair). has_pair ps p) (same ∙ append-nil seen) ∙ ap (has_pair seen) (sym first) ∙ fresh
    last (y ∷ []) same at = cc
    last (y ∷ z ∷ x) same at = cc

with_once : (seen : List Pair) (q : Pair) → IsOnce seen → IsOnce (with_pair seen q)
with_once seen q once = by (has_pair seen q) refl
  where
    by : (b : Bool) → has_pair seen q ≡ b → IsOnce (cond b seen (seen ++ q ∷ []))
    by true h = once
    by false h = one_once seen q once h

are_once : (seen qs : List Pair) → IsOnce seen → IsOnce (with_pairs seen qs)
are_once seen [] once = once
are_once seen (q ∷ qs) once = are_once (with_pair seen q) qs (with_once seen q once)

-- a pair that was queued before its turn is the next of what was queued until then
placed : (before later list : List Pair) (p : Pair) (behind : List Pair) → has_pair before p ≡ true → list ++ p ∷ behind ≡ firsts (before ++ later) → (waiting : List Pair) × (firsts before ≡ list ++ p ∷ waiting)
placed before later list p behind queued is =
    let front = front_of (firsts before) later in
    elim (split (firsts before) front.0 list p behind (sym front.1 ∙ sym (with_pairs-append [] before later) ∙ sym is)) [
      | inl h ↦ absurd (false≢true (sym (are_once [] (before ++ later) none_once list p behind (sym is))
          ∙ ap (λ (ps : List Pair). has_pair ps p) h.1 ∙ list_any-append (same_pair p) (firsts before) h.0 ∙ or_left (has_pair (firsts before) p) (has_pair h.0 p) (occurs_first [] before p queued)))
      | inr h ↦ h
    ]

-- ---- queued pairs

-- a run goes on with what is queued, the next of all that was queued so far each time, until nothing is
data Goes (plan : Planned) (queued : List Pair) : List Pair → List Pair → Entries → List Pair → List Deed → List Pair → Entries → Type 0 where
  stops : {list fired : List Pair} {host : Entries} → list ≡ firsts (queued ++ fired) → Goes plan queued list fired host [] [] [] host
  goes : {list fired more now ever : List Pair} {then acts : List Deed} {host mid new : Entries} (p : Pair) (waiting : List Pair) → firsts (queued ++ fired) ≡ list ++ p ∷ waiting
      → Chain plan (Now p ∷ []) host then now [] mid → Goes plan queued (list ++ p ∷ []) (fired ++ now) mid more acts ever new → Goes plan queued list fired host (p ∷ more) (then ++ acts) (now ++ ever) new

longer : (list : List Pair) (p : Pair) (behind : List Pair) → list ≡ list ++ p ∷ behind → ⊥
longer [] p behind is = cc
longer (q ∷ list) p behind is = let rest : list ≡ list ++ p ∷ behind = cc in longer list p behind rest

next_same : (list : List Pair) (p q : Pair) (one other : List Pair) → list ++ p ∷ one ≡ list ++ q ∷ other → p ≡ q
next_same [] p q one other is = cc
next_same (r ∷ list) p q one other is = let rest : list ++ p ∷ one ≡ list ++ q ∷ other = cc in next_same list p q one other rest

module _ (plan : Planned) where
  same_goes : {queued list fired more also ever fires : List Pair} {acts deeds : List Deed} {host new other : Entries} → Goes plan queued list fired host more acts ever new → Goes plan queued list fired host also deeds fires other
      → (acts ≡ deeds) × (new ≡ other)
  same_goes (stops is) (stops there) = (refl, refl)
  same_goes {list = list} (stops is) (goes q waiting at chain rest) = absurd (longer list q waiting (is ∙ at))
  same_goes {list = list} (goes p waiting at chain rest) (stops is) = absurd (longer list p waiting (is ∙ at))
  same_goes {queued = queued} {list = list} {fired = fired} {host = host} (goes {now = now} {then = then} {acts = acts} {mid = mid} p waiting at chain rest) (goes {more = also} {now = fires} {ever = ever} {then = deeds} {acts = later} {mid = between} {new = other} q left there next behind) =
      let pair : q ≡ p = next_same list q p left waiting (sym there ∙ at) in
      let same = same_chain plan chain refl deeds fires between (subst (λ (x : Pair). Chain plan (Now x ∷ []) host deeds fires [] between) pair next) in
      let all = same_goes rest
      (subst (λ (x : Pair). Goes plan queued (list ++ x ∷ []) (fired ++ now) mid also later ever other) pair
      (subst (λ (ps : List Pair). Goes plan queued (list ++ q ∷ []) (fired ++ ps) mid also later ever other) (sym same.queued)
      (subst (λ (h : Entries). Goes plan queued (list ++ q ∷ []) (fired ++ fires) h also later ever other) (sym same.host) behind))) in
      (ap (λ (xs : List Deed). xs ++ acts) same.acts ∙ ap (λ (xs : List Deed). deeds ++ xs) all.0, all.1)

  -- what was performed in a run, and then what it goes on with
  onto : {queued : List Pair} {start : Entries} {list : List Pair} {acts : List Deed} {fired : List Pair} {host : Entries} → Rest plan queued start list acts fired host
      → (more : List Pair) (then : List Deed) (ever : List Pair) (new : Entries) (behind over : List Pair) → list ++ behind ≡ firsts (queued ++ (fired ++ over)) → Goes plan queued list fired host more then ever new
      → Goes plan queued [] [] start (list ++ more) (acts ++ then) (fired ++ ever) new
  onto at_first more then ever new behind over is rest = rest
  onto {queued = queued} {start = start} (and_next {list = list} {acts = acts} {then = once} {fired = fired} {now = now} {host = host} p before listed chain) more then ever new behind over is rest =
      let at : list ++ p ∷ behind ≡ firsts (queued ++ (fired ++ (now ++ over))) = sym (append_assoc list (p ∷ []) behind) ∙ is ∙ ap (λ (ps : List Pair). firsts (queued ++ ps)) (append_assoc fired now over) in
      let place = placed (queued ++ fired) (now ++ over) list p behind listed (at ∙ ap firsts (sym (append_assoc queued fired (now ++ over)))) in
      let whole = onto before (p ∷ more) (once ++ then) (now ++ ever) new (p ∷ behind) (now ++ over) at (goes p place.0 place.1 chain rest) in
      subst (λ (ps : List Pair). Goes plan queued [] [] start ps ((acts ++ once) ++ then) ((fired ++ now) ++ ever) new) (sym (append_assoc list (p ∷ []) more))
      (subst (λ (xs : List Deed). Goes plan queued [] [] start (list ++ p ∷ more) xs ((fired ++ now) ++ ever) new) (sym (append_assoc acts once then))
      (subst (λ (ps : List Pair). Goes plan queued [] [] start (list ++ p ∷ more) (acts ++ (once ++ then)) ps new) (sym (append_assoc fired now ever)) whole))

  run_goes : (host new : Entries) (acts : List Deed) (run : Run plan host acts new) → Goes plan run.queued [] [] run.between (run.list ++ []) (run.then ++ []) (run.fired ++ []) new
  run_goes host new acts run =
      onto run.rest [] [] [] new [] [] (append-nil run.list ∙ run.once ∙ ap (λ (ps : List Pair). firsts (run.queued ++ ps)) (sym (append-nil run.fired))) (stops run.once)

pub runs_determined : RunsAreDetermined
runs_determined plan host one other acts also run next =
    let owns = same_chain plan run.owns refl next.first next.queued next.between next.owns in
    let queue = same_goes plan (run_goes plan host one acts run)
    (subst (λ (ps : List Pair). Goes plan ps [] [] run.between (next.list ++ []) (next.then ++ []) (next.fired ++ []) other) (sym owns.queued)
    (subst (λ (h : Entries). Goes plan next.queued [] [] h (next.list ++ []) (next.then ++ []) (next.fired ++ []) other) (sym owns.host) (run_goes plan host other also next))) in
    let then : run.then ≡ next.then = sym (append-nil run.then) ∙ queue.0 ∙ append-nil next.then in
    let same : acts ≡ also = run.acts_are ∙ ap (λ (xs : List Deed). xs ++ run.then) owns.acts ∙ ap (λ (xs : List Deed). next.first ++ xs) then ∙ sym next.acts_are in
    record { acts = same; report = ap (whole_report plan) same; lines = ap (lines_of plan) same; host = queue.1 }
