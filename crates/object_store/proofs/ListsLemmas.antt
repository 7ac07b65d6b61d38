-- The lists that are seen, against those that are kept.
use Rattle.std.proofs.Common.{◌≡◌, ◌==◌, ◌+◌, ◌<◌, ℕ, Bool, true, false, cond, List, [], ◌∷◌, ◌++◌, map, get_or, Option, None, Some, option_map, is_some, position, refl, sym, ap, subst, ◌∙◌, append_assoc, true≢false, arith}
use Rattle.std.proofs.lemmas.Grind.{common_steps}
use Rattle.std.proofs.lemmas.Bool.Decides.{Decides-eqb}
use Rattle.std.proofs.lemmas.List.Sums.{sum_by-cons, sum_by-append, sum_by-swap_remove}
use Rattle.std.proofs.lemmas.Map.Made.{lookup-map_values}
use Rattle.std.proofs.lemmas.Option.{get_or_from_slice_get}
use Rattle.std.proofs.Math.ListN.{get_or-map}
use Rattle.std.proofs.lemmas.List.{append-nil, map-append}
use Rattle.std.specs.Cmp.{eq_by_cmp_equiv}
use Rattle.std.specs.FinMap as finite
use Rattle.std.specs.List.{IsDistinct}
use Rattle.std.specs.Map.{lookup, keys_of, values_of}
use Rattle.indexmap.specs.IndexMap.{swap_remove_entry}
use Rattle.indexmap.proofs.MapLemmas.{absent_before, Found-position, some_index, swap_remove_entry-found}
use Rattle.membership.specs.MapValues.{map_values}
use Rattle.membership.proofs.MapValuesLemmas.{is-map_values}
use Rattle.slab.specs.Slab.{get, ContainsKey}
use Rattle.access_lists.specs.declared.acl.Acl.{Acl}
use Rattle.access_lists.specs.Acls.{each_entry, without_actor, without_group, with_creator}
use Rattle.access_lists.specs.Creators.{creator_left}
use Rattle.access_lists.proofs.CreatorsLemmas.{without_actor-created, without_group-created}
use Rattle.object_store.specs.declared.bases.Base.{Base}
use Rattle.object_store.specs.declared.bases.Share.{Share}
use Rattle.object_store.specs.declared.key.Key.{Key}
use Rattle.object_store.specs.Bases.{Bases, uses_of, acl_of, uses_at, acl_at, list_of, seen, uses_in, AreAcls, IsKept, one_at, Adds, Loses, Changes, with_acl, share_left}
use Rattle.object_store.specs.Keys.{key_cmp, key_cmp_total, key_cmp_ties, same_key}
use Rattle.object_store.specs.Objects.{Lists, smaller}
use Rattle.object_store.proofs.BasesLemmas.{there-used, base-there, uses-changed}

-- where there is room for both, there is room for each
pub room_left : (a b : ℕ) → 0 < smaller a b → 0 < a
room_left a b both = grind (arith, common_steps)

-- shares as they are kept
abbrev pub Entries : Type 0
Entries = List (Key × Share)

-- what is seen at a key is what is kept there
find-lookup : (entries : List (Key × Acl)) (key : Key) → finite.find key_cmp key entries ≡ lookup (same_key key) entries
find-lookup [] key = refl
find-lookup (e ∷ rest) key = ap (cond (same_key key e.0) (Some e.1)) (find-lookup rest key)

pub get-seen : (bases : Bases) (entries : Entries) (key : Key) → finite.get (seen bases entries) key ≡ option_map (list_of bases) (lookup (same_key key) entries)
get-seen bases entries key =
    let shown : List (Key × Acl) = map (λ (e : Key × Share). (e.0, list_of bases e.1)) entries in
    finite.get-from_entries key_cmp_total shown key ∙ find-lookup shown key ∙ lookup-map_values (list_of bases) (same_key key) entries

-- one use
abbrev pub use_of : ℕ → Key × Share → ℕ
use_of n e = cond (e.1.base == n) 1 0

uses-cons : (n : ℕ) (e : Key × Share) (rest : Entries) → uses_in n (e ∷ rest) ≡ use_of n e + uses_in n rest
uses-cons n e rest = sum_by-cons (use_of n) e rest

same_share : (a b : Share) → Some a ≡ Some b → a ≡ b
same_share a b is = ap pick is
  where
    pick : Option Share → Share
    pick None = a
    pick (Some share) = share

-- a share that is kept uses its base
pub used-here : (entries : Entries) (test : Key → Bool) (share : Share) → lookup test entries ≡ Some share → 0 < uses_in share.base entries
used-here [] test share is = absurd (true≢false (sym (ap is_some is)))
used-here (e ∷ rest) test share is = by (test e.0) refl (used-here rest test share)
  where
    by : (b : Bool) → test e.0 ≡ b → (lookup test rest ≡ Some share → 0 < uses_in share.base rest) → 0 < uses_in share.base (e ∷ rest)
    by true own behind =
        let here : e.1 ≡ share = same_share e.1 share (sym (ap (λ b. cond b (Some e.1) (lookup test rest)) own) ∙ is) in
        let one : use_of share.base e ≡ 1 = ap (λ b. cond b 1 0) ((Decides-eqb e.1.base share.base).1 (ap (λ (s : Share). s.base) here)) in
        let whole : uses_in share.base (e ∷ rest) ≡ use_of share.base e + uses_in share.base rest = uses-cons share.base e rest in
        omega (arith, whole, one)
    by false other behind =
        let later : 0 < uses_in share.base rest = behind (sym (ap (λ b. cond b (Some e.1) (lookup test rest)) other) ∙ is) in
        let whole : uses_in share.base (e ∷ rest) ≡ use_of share.base e + uses_in share.base rest = uses-cons share.base e rest in
        omega (arith, whole, later)

-- so that its base is there
pub kept-there : (entries : Entries) (bases : Bases) (test : Key → Bool) (share : Share) → IsKept entries bases → lookup test entries ≡ Some share → ContainsKey bases share.base
kept-there entries bases test share kept is =
    there-used (get bases share.base) (subst (λ m. 0 < m) (sym (kept.counted share.base)) (used-here entries test share is))

-- bases that are used and stay are seen as before
seen-same : (before after : Bases) (entries : Entries) (test : Key → Bool) → ((n : ℕ) → 0 < uses_in n entries → acl_at after n ≡ acl_at before n)
    → option_map (list_of after) (lookup test entries) ≡ option_map (list_of before) (lookup test entries)
seen-same before after entries test stay = by (lookup test entries) refl
  where
    by : (r : Option Share) → lookup test entries ≡ r → option_map (list_of after) r ≡ option_map (list_of before) r
    by None is = refl
    by (Some share) is = ap (λ acl. Some (with_creator share.creator acl)) (stay share.base (used-here entries test share is))

-- a list that is kept no more is removed
pub seen-remove : (before after : Bases) (old new : Entries) (key : Key) → ((n : ℕ) → 0 < uses_in n new → acl_at after n ≡ acl_at before n)
    → ((k : Key) → lookup (same_key k) new ≡ cond (same_key key k) None (lookup (same_key k) old)) → seen after new ≡ finite.remove (seen before old) key
seen-remove before after old new key stay takes =
    finite.same_map key_cmp_total key_cmp_ties (seen after new) (finite.remove (seen before old) key) (λ q.
    get-seen after new q
    ∙ seen-same before after new (same_key q) stay
    ∙ ap (option_map (list_of before)) (takes q)
    ∙ either (same_key key q) (lookup (same_key q) old)
    ∙ (λ i. cond ((eq_by_cmp_equiv key_cmp_total).symm key q i) None (sym (get-seen before old q) i))
    ∙ sym (finite.get-remove key_cmp_total (seen before old) key q))
  where
    either : (b : Bool) (o : Option Share) → option_map (list_of before) (cond b None o) ≡ cond b None (option_map (list_of before) o)
    either true o = refl
    either false o = refl

-- a list that is kept from now on is inserted
pub seen-insert : (before after : Bases) (old new : Entries) (key : Key) (share : Share) (acl : Acl) → ((n : ℕ) → 0 < uses_in n old → acl_at after n ≡ acl_at before n) → list_of after share ≡ acl
    → ((k : Key) → lookup (same_key k) new ≡ cond (same_key key k) (Some share) (lookup (same_key k) old)) → seen after new ≡ finite.insert (seen before old) key acl
seen-insert before after old new key share acl stay is puts =
    finite.same_map key_cmp_total key_cmp_ties (seen after new) (finite.insert (seen before old) key acl) (λ q.
    get-seen after new q
    ∙ ap (option_map (list_of after)) (puts q)
    ∙ either (same_key key q) (lookup (same_key q) old)
    ∙ ap (cond (same_key key q) (Some acl)) (seen-same before after old (same_key q) stay)
    ∙ (λ i. cond ((eq_by_cmp_equiv key_cmp_total).symm key q i) (Some acl) (sym (get-seen before old q) i))
    ∙ sym (finite.get-insert key_cmp_total (seen before old) key acl q))
  where
    either : (b : Bool) (o : Option Share) → option_map (list_of after) (cond b (Some share) o) ≡ cond b (Some acl) (option_map (list_of after) o)
    either true o = ap Some is
    either false o = refl

-- what is put in where another was taken out
pub insert-remove : (lists : Lists) (key : Key) (acl : Acl) → finite.insert (finite.remove lists key) key acl ≡ finite.insert lists key acl
insert-remove lists key acl =
    finite.same_map key_cmp_total key_cmp_ties (finite.insert (finite.remove lists key) key acl) (finite.insert lists key acl) (λ q.
    finite.get-insert key_cmp_total (finite.remove lists key) key acl q
    ∙ ap (cond (same_key q key) (Some acl)) (finite.get-remove key_cmp_total lists key q)
    ∙ twice (same_key q key) (finite.get lists q)
    ∙ sym (finite.get-insert key_cmp_total lists key acl q))
  where
    twice : (b : Bool) (o : Option Acl) → cond b (Some acl) (cond b None o) ≡ cond b (Some acl) o
    twice true o = refl
    twice false o = refl

-- an entry that is taken out is one use fewer
uses-removed : (n : ℕ) (test : Key → Bool) (entries : Entries) (share : Share) → lookup test entries ≡ Some share → uses_in n (swap_remove_entry test entries) + one_at share.base n ≡ uses_in n entries
uses-removed n test [] share is = absurd (true≢false (sym (ap is_some is)))
uses-removed n test (e ∷ rest) share is = by (position test (keys_of (e ∷ rest))) refl
  where
    by : (r : Option ℕ) → position test (keys_of (e ∷ rest)) ≡ r → uses_in n (swap_remove_entry test (e ∷ rest)) + one_at share.base n ≡ uses_in n (e ∷ rest)
    by None at = absurd (true≢false (sym (ap is_some is) ∙ sym (some_index test (e ∷ rest)) ∙ ap is_some at))
    by (Some i) at =
        let found = Found-position test (e ∷ rest) i at in
        let value : get_or (values_of (e ∷ rest)) i e.1 ≡ share = get_or_from_slice_get (values_of (e ∷ rest)) i share e.1 (sym found.value ∙ is) in
        let entry : (get_or (e ∷ rest) i e).1 ≡ share = sym (get_or-map (λ (x : Key × Share). x.1) (e ∷ rest) i e) ∙ value in
        ap (λ m. uses_in n (swap_remove_entry test (e ∷ rest)) + m) (ap (λ (s : Share). one_at s.base n) (sym entry))
        ∙ ap (λ es. uses_in n es + use_of n (get_or (e ∷ rest) i e)) (swap_remove_entry-found test (e ∷ rest) i e at)
        ∙ sum_by-swap_remove (use_of n) (e ∷ rest) i e found.within

-- one that was there is taken out with its use
pub kept-removed : (old : Entries) (before after : Bases) (test : Key → Bool) (share : Share) → IsKept old before → lookup test old ≡ Some share → Loses before after share.base → IsKept (swap_remove_entry test old) after
kept-removed old before after test share kept is loses = record {
  counted = λ n.
      let left = loses.uses n in
      let fewer = uses-removed n test old share is in
      let all = kept.counted n in
      omega (arith, left, fewer, all);
  used = loses.used kept.used;
}

-- where the bases that are used stay
pub stay-removed : (old : Entries) (before after : Bases) (test : Key → Bool) (share : Share) → IsKept old before → lookup test old ≡ Some share → Loses before after share.base
    → (n : ℕ) → 0 < uses_in n (swap_remove_entry test old) → acl_at after n ≡ acl_at before n
stay-removed old before after test share kept is loses n used =
    loses.acls n (subst (λ m. 0 < m) (sym ((kept-removed old before after test share kept is loses).counted n)) used)

-- one that comes is there with its use
pub kept-added : (old new : Entries) (before after : Bases) (key : Key) (share : Share) → IsKept old before → Adds before after share.base → new ≡ old ++ (key, share) ∷ [] → IsKept new after
kept-added old new before after key share kept adds last = record {
  counted = λ n.
      let more = adds.uses n in
      let all = kept.counted n in
      let whole : uses_in n new ≡ uses_in n (old ++ (key, share) ∷ []) = ap (uses_in n) last in
      let parts : uses_in n (old ++ (key, share) ∷ []) ≡ uses_in n old + uses_in n ((key, share) ∷ []) = sum_by-append (use_of n) old ((key, share) ∷ []) in
      let one : uses_in n ((key, share) ∷ []) ≡ one_at share.base n + 0 = uses-cons n (key, share) [] in
      omega (arith, more, all, whole, parts, one);
  used = adds.used kept.used;
}

pub stay-added : (old : Entries) (before after : Bases) (number : ℕ) → IsKept old before → Adds before after number → (n : ℕ) → 0 < uses_in n old → acl_at after n ≡ acl_at before n
stay-added old before after number kept adds n used = adds.acls n (subst (λ m. 0 < m) (sym (kept.counted n)) used)

-- lists that are each changed alike
seen-changed : (change : Acl → Acl) (left : Share → Share) (old new : Entries) (before after : Bases) → ((test : Key → Bool) → lookup test new ≡ option_map left (lookup test old))
    → ((test : Key → Bool) (share : Share) → lookup test old ≡ Some share → list_of after (left share) ≡ change (list_of before share)) → seen after new ≡ map_values change (seen before old)
seen-changed change left old new before after lookups lists =
    is-map_values change key_cmp_total key_cmp_ties (seen before old) (seen after new) (λ q.
    get-seen after new q
    ∙ ap (option_map (list_of after)) (lookups (same_key q))
    ∙ by q (lookup (same_key q) old) refl
    ∙ ap (option_map change) (sym (get-seen before old q)))
  where
    by : (q : Key) (r : Option Share) → lookup (same_key q) old ≡ r → option_map (list_of after) (option_map left r) ≡ option_map change (option_map (list_of before) r)
    by q None is = refl
    by q (Some share) is = ap Some (lists (same_key q) share is)

-- a base of a share that is kept
acl-changed : (change : Acl → Acl) (entries : Entries) (before after : Bases) (test : Key → Bool) (share : Share) → IsKept entries before → Changes change before after → lookup test entries ≡ Some share
    → acl_at after share.base ≡ change (acl_at before share.base)
acl-changed change entries before after test share kept changed is =
    let here = base-there (get before share.base) (kept-there entries before test share kept is) in
    ap acl_of (changed.each share.base ∙ ap (option_map (with_acl change)) here.1) ∙ ap (λ o. change (acl_of o)) (sym here.1)

-- a change of the lists alone leaves the uses
pub kept-changed : (change : Acl → Acl) (old new : Entries) (before after : Bases) → IsKept old before → Changes change before after → ((n : ℕ) → uses_in n new ≡ uses_in n old) → IsKept new after
kept-changed change old new before after kept changed uses = record {
  counted = λ n. ap uses_of (changed.each n) ∙ uses-changed change (get before n) ∙ kept.counted n ∙ sym (uses n);
  used = λ n base is. by n base (get before n) refl is;
}
  where
    by : (n : ℕ) (base : Base) (o : Option Base) → get before n ≡ o → get after n ≡ Some base → 0 < base.uses
    by n base None was is = absurd (true≢false (ap is_some (sym is ∙ changed.each n ∙ ap (option_map (with_acl change)) was)))
    by n base (Some had) was is =
        subst (λ m. 0 < m) (ap uses_of (sym (changed.each n ∙ ap (option_map (with_acl change)) was) ∙ is)) (kept.used n had was)

-- shares without an actor as who created
abbrev pub without_creator : List ℕ → Entries → Entries
without_creator name entries = map (λ (e : Key × Share). (e.0, share_left name e.1)) entries

pub uses-without_creator : (name : List ℕ) (n : ℕ) (entries : Entries) → uses_in n (without_creator name entries) ≡ uses_in n entries
uses-without_creator name n [] = refl
uses-without_creator name n (e ∷ rest) =
    uses-cons n (e.0, share_left name e.1) (without_creator name rest)
    ∙ ap (λ m. use_of n e + m) (uses-without_creator name n rest)
    ∙ sym (uses-cons n e rest)

-- an actor goes from every list
pub seen-without_actor : (name : List ℕ) (entries : Entries) (before after : Bases) → IsKept entries before → AreAcls before → Changes (each_entry (without_actor name)) before after
    → seen after (without_creator name entries) ≡ map_values (each_entry (without_actor name)) (seen before entries)
seen-without_actor name entries before after kept rising changed =
    seen-changed (each_entry (without_actor name)) (share_left name) entries (without_creator name entries) before after (λ test. lookup-map_values (share_left name) test entries) (λ test share is.
    let here = base-there (get before share.base) (kept-there entries before test share kept is) in
    ap (with_creator (creator_left name share.creator)) (acl-changed (each_entry (without_actor name)) entries before after test share kept changed is ∙ ap (λ o. each_entry (without_actor name) (acl_of o)) here.1)
    ∙ sym (without_actor-created name share.creator here.0.acl (rising share.base here.0 here.1))
    ∙ ap (λ o. each_entry (without_actor name) (with_creator share.creator (acl_of o))) (sym here.1))

-- a group goes from every list
pub seen-without_group : (name : List ℕ) (entries : Entries) (before after : Bases) → IsKept entries before → Changes (each_entry (without_group name)) before after
    → seen after entries ≡ map_values (each_entry (without_group name)) (seen before entries)
seen-without_group name entries before after kept changed =
    seen-changed (each_entry (without_group name)) (λ share. share) entries entries before after (λ test. same (lookup test entries)) (λ test share is.
    ap (with_creator share.creator) (acl-changed (each_entry (without_group name)) entries before after test share kept changed is)
    ∙ sym (without_group-created name share.creator (acl_at before share.base)))
  where
    same : (o : Option Share) → o ≡ option_map (λ (share : Share). share) o
    same None = refl
    same (Some share) = refl

-- a copy has the lists of these entries so far, and these are left
pub record Copied (bases : Bases) (whole : Entries) (made : Lists) (left : Entries) : Type 0 where
  pub done : Entries
  pub all : done ++ left ≡ whole
  pub lists : made ≡ seen bases done
  pub distinct : IsDistinct same_key (keys_of whole)

pub Copied-none : (bases : Bases) (whole : Entries) (made : Lists) → made ≡ finite.empty → IsDistinct same_key (keys_of whole) → Copied bases whole made whole
Copied-none bases whole made empty distinct = record { done = []; all = refl; lists = empty; distinct = distinct }

-- the base of the next share is there
pub Copied-there : (bases : Bases) (whole : Entries) (made : Lists) (key : Key) (share : Share) (rest : Entries) → IsKept whole bases → Copied bases whole made ((key, share) ∷ rest) → ContainsKey bases share.base
Copied-there bases whole made key share rest kept copied =
    let n : ℕ = share.base in
    let parts : uses_in n (copied.done ++ (key, share) ∷ rest) ≡ uses_in n copied.done + uses_in n ((key, share) ∷ rest) = sum_by-append (use_of n) copied.done ((key, share) ∷ rest) in
    let next : uses_in n ((key, share) ∷ rest) ≡ use_of n (key, share) + uses_in n rest = uses-cons n (key, share) rest in
    let one : ◌≡◌ {A = ℕ} (use_of n (key, share)) 1 = ap (λ b. cond b 1 0) ((Decides-eqb n n).1 refl) in
    let whole_is : uses_in n (copied.done ++ (key, share) ∷ rest) ≡ uses_in n whole = ap (uses_in n) copied.all in
    let counted : uses_at bases n ≡ uses_in n whole = kept.counted n in
    there-used (get bases n) (omega (arith, parts, next, one, whole_is, counted))

-- one list more is copied
pub Copied-more : (bases : Bases) (whole : Entries) (made now : Lists) (key : Key) (share : Share) (rest : Entries) (acl : Acl) → Copied bases whole made ((key, share) ∷ rest)
    → acl ≡ list_of bases share → now ≡ finite.insert made key acl → Copied bases whole now rest
Copied-more bases whole made now key share rest acl copied is inserted = record {
  done = copied.done ++ (key, share) ∷ [];
  all = append_assoc copied.done ((key, share) ∷ []) rest ∙ copied.all;
  lists = inserted ∙ (λ i. finite.insert (copied.lists i) key (is i)) ∙ sym pushed;
  distinct = copied.distinct;
}
  where
    show : Key × Share → Key × Acl
    show e = (e.0, list_of bases e.1)

    none : lookup (same_key key) copied.done ≡ None
    none = absent_before (eq_by_cmp_equiv key_cmp_total) copied.done rest (key, share) (subst (λ (es : Entries). IsDistinct same_key (keys_of es)) (sym copied.all) copied.distinct)

    absent : finite.find key_cmp key (map show copied.done) ≡ None
    absent = find-lookup (map show copied.done) key ∙ lookup-map_values (list_of bases) (same_key key) copied.done ∙ ap (option_map (list_of bases)) none

    pushed : seen bases (copied.done ++ (key, share) ∷ []) ≡ finite.insert (seen bases copied.done) key (list_of bases share)
    pushed =
        ap (λ (es : List (Key × Acl)). finite.from_entries es) (map-append show copied.done ((key, share) ∷ []))
        ∙ finite.from_entries_push key_cmp_total key_cmp_ties (map show copied.done) key (list_of bases share) absent

-- all lists are copied
pub Copied-all : (bases : Bases) (whole left : Entries) (made : Lists) → Copied bases whole made left → left ≡ [] → made ≡ seen bases whole
Copied-all bases whole left made copied none =
    copied.lists ∙ ap (seen bases) (sym (append-nil copied.done) ∙ ap (λ es. copied.done ++ es) (sym none) ∙ copied.all)
