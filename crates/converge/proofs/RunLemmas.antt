-- A run, from its own actions through its queue to its end or to a fault.
use Rattle.std.proofs.Common.{◌≡◌, ℕ, zero, suc, ◌<◌, ◌≤◌, ◌⊎◌, inl, inr, Bool, true, false, ◌||◌, cond, List, [], ◌∷◌, ◌++◌, length, take, drop, Some, None, slice_get, refl, sym, ap, subst, ◌∙◌, arith}
use Rattle.std.proofs.lemmas.Bool.{false≢true}
use Rattle.std.proofs.lemmas.List.{append-nil, append_assoc, take-append-drop}
use Rattle.std.proofs.lemmas.List.Folds.{list_any-append}
use Rattle.host_tree.specs.Entries.{Entries}
use Rattle.host_tree.specs.declared.fault.HostFault.{HostFault}
use Rattle.host_tree.specs.declared.fault.HostFault.TheVariants as fault
use Rattle.notify_queue.proofs.FirstsLemmas.{with_pairs-append}
use Rattle.notify_queue.specs.Queue.{firsts, has_pair, same_pair, with_pair, with_pairs}
use Rattle.notify_queue.specs.declared.pair.Pair.{Pair}
use Rattle.resource_core.specs.Plans.{Planned}
use Rattle.converge.proofs.ChainLemmas.{nothing_in_part}
use Rattle.converge.proofs.SettledLemmas.{same_itself}
use Rattle.converge.specs.Going.{RunStopped, Running, Stopped, Went}
use Rattle.converge.specs.Pairs.{own_fires}
use Rattle.converge.specs.Runs.{among_owns, among_queued, before_queued, halts, Rest, at_first, and_next, Run}
use Rattle.converge.specs.declared.deeds.Deed.{Deed}
use Rattle.converge.specs.declared.firing.Fire.TheVariants.{Now}

-- ---- first occurrences

or_parts : (a b : Bool) → (a || b) ≡ true → (a ≡ true) ⊎ (b ≡ true)
or_parts true b h = inl refl
or_parts false b h = inr h

or_right : (a b : Bool) → b ≡ true → (a || b) ≡ true
or_right true b h = refl
or_right false b h = h

or_left : (a b : Bool) → a ≡ true → (a || b) ≡ true
or_left a b h = ap (λ x. x || b) h

-- a pair that is put behind others is among them then, and none but it
pair_among : (seen : List Pair) (q p : Pair) → has_pair (with_pair seen q) p ≡ true → (has_pair seen p ≡ true) ⊎ (same_pair p q ≡ true)
pair_among seen q p h = by (has_pair seen q) h
  where
    by : (b : Bool) → has_pair (cond b seen (seen ++ q ∷ [])) p ≡ true → (has_pair seen p ≡ true) ⊎ (same_pair p q ≡ true)
    by true h = inl h
    by false h = elim (or_parts (has_pair seen p) (has_pair (q ∷ []) p) (sym (list_any-append (same_pair p) seen (q ∷ [])) ∙ h)) [
      | inl before ↦ inl before
      | inr last ↦ elim (or_parts (same_pair p q) false last) [ inl is ↦ inr is | inr never ↦ absurd (false≢true never) ]
    ]

pairs_among : (seen qs : List Pair) (p : Pair) → has_pair (with_pairs seen qs) p ≡ true → (has_pair seen p ≡ true) ⊎ (has_pair qs p ≡ true)
pairs_among seen [] p h = inl h
pairs_among seen (q ∷ qs) p h = elim (pairs_among (with_pair seen q) qs p h) [
  | inl before ↦ elim (pair_among seen q p before) [ inl first ↦ inl first | inr is ↦ inr (or_left (same_pair p q) (has_pair qs p) is) ]
  | inr later ↦ inr (or_right (same_pair p q) (has_pair qs p) later)
]

-- a first occurrence occurs
first_occurs : (qs : List Pair) (p : Pair) → has_pair (firsts qs) p ≡ true → has_pair qs p ≡ true
first_occurs qs p h = elim (pairs_among [] qs p h) [ inl never ↦ absurd (false≢true never) | inr there ↦ there ]

at_place : (ps : List Pair) (k : ℕ) (p : Pair) → slice_get ps k ≡ Some p → has_pair ps p ≡ true
at_place [] k p h = cc
at_place (q ∷ ps) zero p h =
    let is : q ≡ p = cc in
    or_left (same_pair p q) (has_pair ps p) (subst (λ (r : Pair). same_pair p r ≡ true) (sym is) (same_itself p))
at_place (q ∷ ps) (suc k) p h = or_right (same_pair p q) (has_pair ps p) (at_place ps k p h)

-- what is put behind leaves what was before
pair_extends : (seen : List Pair) (q : Pair) (k : ℕ) → k ≤ length seen → take k (with_pair seen q) ≡ take k seen
pair_extends seen q k h = by (has_pair seen q)
  where
    front : (ps : List Pair) (k : ℕ) → k ≤ length ps → take k (ps ++ q ∷ []) ≡ take k ps
    front ps zero h = refl
    front [] (suc k) h = absurd (omega arith)
    front (p ∷ ps) (suc k) h = ap (λ qs. p ∷ qs) (front ps k (omega arith))

    by : (b : Bool) → take k (cond b seen (seen ++ q ∷ [])) ≡ take k seen
    by true = refl
    by false = front seen k h

longer : (seen : List Pair) (q : Pair) → length seen ≤ length (with_pair seen q)
longer seen q = by (has_pair seen q)
  where
    push : (ps : List Pair) → length ps ≤ length (ps ++ q ∷ [])
    push [] = omega arith
    push (p ∷ ps) = let less = push ps in omega arith

    by : (b : Bool) → length seen ≤ length (cond b seen (seen ++ q ∷ []))
    by true = omega arith
    by false = push seen

pairs_extend : (seen qs : List Pair) (k : ℕ) → k ≤ length seen → take k (with_pairs seen qs) ≡ take k seen
pairs_extend seen [] k h = refl
pairs_extend seen (q ∷ qs) k h = pairs_extend (with_pair seen q) qs k (let more = longer seen q in omega arith) ∙ pair_extends seen q k h

pub got : (ps : List Pair) (k : ℕ) (p : Pair) → slice_get ps k ≡ Some p → k < length ps
got [] k p h = cc
got (q ∷ ps) zero p h = omega arith
got (q ∷ ps) (suc k) p h = let less = got ps k p h in omega arith

one_more : (ps : List Pair) (k : ℕ) (p : Pair) → slice_get ps k ≡ Some p → take (suc k) ps ≡ take k ps ++ p ∷ []
one_more [] k p h = cc
one_more (q ∷ ps) zero p h = let is : q ≡ p = cc in ap (λ r. r ∷ []) is
one_more (q ∷ ps) (suc k) p h = ap (λ qs. q ∷ qs) (one_more ps k p h)

parted : (ps : List Pair) (k : ℕ) (p : Pair) → slice_get ps k ≡ Some p → take k ps ++ p ∷ drop (suc k) ps ≡ ps
parted [] k p h = cc
parted (q ∷ ps) zero p h = let is : q ≡ p = cc in ap (λ r. r ∷ ps) (sym is)
parted (q ∷ ps) (suc k) p h = ap (λ qs. q ∷ qs) (parted ps k p h)

all_taken : (ps : List Pair) (k : ℕ) → slice_get ps k ≡ None → take k ps ≡ ps
all_taken [] zero h = refl
all_taken [] (suc k) h = refl
all_taken (q ∷ ps) zero h = cc
all_taken (q ∷ ps) (suc k) h = ap (λ qs. q ∷ qs) (all_taken ps k h)

-- ---- runs

module _ (plan : Planned) where
  -- the own actions had their turn
  pub running_first : (acts : List Deed) (ever : List Pair) (host new : Entries) → Went plan (own_fires plan) [] [] [] acts ever host new → Running plan acts ever 0 host new
  running_first acts ever host new went = record {
    first = went.gained;
    queued = went.queued;
    between = new;
    owns = went.chain;
    then = [];
    fired = [];
    rest = at_first;
    ever_is = went.ever_is ∙ ap firsts (sym (append-nil went.queued));
    acts_are = went.acts_are ∙ sym (append-nil went.gained);
  }

  -- one queued pair more
  pub running_more : (a b : List Deed) (x y : List Pair) (k : ℕ) (p : Pair) (host mid new : Entries) → slice_get x k ≡ Some p
      → Running plan a x k host mid → Went plan (Now p ∷ []) a x [] b y mid new → Running plan b y (suc k) host new
  running_more a b x y k p host mid new at so went = record {
    first = so.first;
    queued = so.queued;
    between = so.between;
    owns = so.owns;
    then = so.then ++ went.gained;
    fired = so.fired ++ went.queued;
    rest = subst (λ (ps : List Pair). Rest plan so.queued so.between ps (so.then ++ went.gained) (so.fired ++ went.queued) new) (sym taken_is)
        (and_next p so.rest (first_occurs (so.queued ++ so.fired) p (at_place (firsts (so.queued ++ so.fired)) k p (ap (λ ps. slice_get ps k) (sym so.ever_is) ∙ at))) went.chain);
    ever_is = went.ever_is ∙ ap (λ ps. with_pairs ps went.queued) so.ever_is ∙ sym (with_pairs-append [] (so.queued ++ so.fired) went.queued) ∙ ap firsts (append_assoc so.queued so.fired went.queued);
    acts_are = went.acts_are ∙ ap (λ xs. xs ++ went.gained) so.acts_are ∙ append_assoc so.first so.then went.gained;
  }
    where
      taken_is : take (suc k) y ≡ take k x ++ p ∷ []
      taken_is = ap (take (suc k)) went.ever_is ∙ pairs_extend x went.queued (suc k) (let less = got x k p at in omega arith) ∙ one_more x k p at

  -- nothing waits any more
  pub running_end : (acts : List Deed) (ever : List Pair) (k : ℕ) (host new : Entries) → slice_get ever k ≡ None → Running plan acts ever k host new → Run plan host acts new
  running_end acts ever k host new at so = record {
    first = so.first;
    queued = so.queued;
    between = so.between;
    owns = so.owns;
    list = take k ever;
    then = so.then;
    fired = so.fired;
    rest = so.rest;
    once = all_taken ever k at ∙ so.ever_is;
    acts_are = so.acts_are;
  }

  -- want of memory before anything
  pub stopped_first : (host : Entries) → RunStopped plan [] fault.NoMemory host host
  stopped_first host = record {
    gained = [];
    cut = record { left = own_fires plan; mid = host; begins = among_owns halts; part = nothing_in_part plan (own_fires plan) host };
    acts_are = λ failed. refl;
  }

  -- a fault among the own actions
  pub stopped_own : (acts : List Deed) (why : HostFault) (host new : Entries) → Stopped plan (own_fires plan) [] acts why host new → RunStopped plan acts why host new
  stopped_own acts why host new stop = record {
    gained = stop.gained;
    cut = record { left = stop.left; mid = stop.mid; begins = among_owns stop.chain; part = stop.part };
    acts_are = stop.acts_are;
  }

  -- want of memory before a queued pair
  pub stopped_between : (acts : List Deed) (ever : List Pair) (k : ℕ) (host new : Entries) → Running plan acts ever k host new → RunStopped plan acts fault.NoMemory host new
  stopped_between acts ever k host new so = record {
    gained = so.first ++ so.then;
    cut = record { left = []; mid = new; begins = before_queued (drop k ever) so.owns so.rest (take-append-drop k ever ∙ so.ever_is); part = refl };
    acts_are = λ failed. so.acts_are;
  }

  -- a fault in a queued pair
  pub stopped_queued : (a b : List Deed) (x : List Pair) (k : ℕ) (p : Pair) (why : HostFault) (host mid new : Entries) → slice_get x k ≡ Some p
      → Running plan a x k host mid → Stopped plan (Now p ∷ []) a b why mid new → RunStopped plan b why host new
  stopped_queued a b x k p why host mid new at so stop = record {
    gained = so.first ++ (so.then ++ stop.gained);
    cut = record { left = stop.left; mid = stop.mid; begins = among_queued p (drop (suc k) x) so.owns so.rest (parted x k p at ∙ so.ever_is) stop.chain; part = stop.part };
    acts_are = λ failed. stop.acts_are failed ∙ ap (λ xs. xs ++ stop.gained) so.acts_are ∙ append_assoc so.first so.then stop.gained;
  }
