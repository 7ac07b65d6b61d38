-- A host that is kept in an ordered map.
use Rattle.std.proofs.Common.{◌≡◌, ◌⊎◌, inl, inr, is_some, ℕ, zero, suc, ◌-◌, Bool, true, false, cond, ◌||◌, List, [], ◌∷◌, ◌++◌, length, slice_get, ◌<◌, arith, Option, Some, None, Ordering, nat_cmp, bytes_eq, BTreeMap, option_map, refl, sym, ap, subst, ◌∙◌}
use Rattle.std.proofs.lemmas.Bool.{cases_Bool, or_cases, or_left, or_right, true≢false}
use Rattle.std.proofs.lemmas.Cmp.{nat_list_cmp_total}
use Rattle.std.specs.BTreeMap.{get, is_at}
use Rattle.std.specs.BTreeMap.Range.{IsRangeOf, IsEntryInRange}
use Rattle.std.specs.Cmp.Lexicographic.{slice_cmp, bytes_decides}
use Rattle.std.specs.FinMap as finite
use Rattle.std.specs.FinMap.{get-from_entries, entries-insert, get-empty, contains_key-keys, len-entries, len-empty, len-remove, empty_of_len}
use Rattle.std.specs.FinMap.Entries.{put, by_order}
use Rattle.std.specs.List.{list_any}
use Rattle.std.specs.List.Sorted.{IsStrictlySortedBy}
use Rattle.std.specs.Map.{keys_of}
use Rattle.std.specs.Map.Iter.{TakesFirst}
use Rattle.std.specs.Option.{IsSome, IfSome}
use Rattle.std.specs.Ordering.{eq_by_cmp, is_lt}
use Rattle.std.specs.declared.ops.Bound.TheVariants.{Included, Excluded}
use Rattle.doc_tree.proofs.Maps.{get_text, text_map-insert, eq_by_cmp-text, bytes_eq-symm}
use Rattle.host_tree.specs.Entries.{Entries, at, has_below, IsHost, IsDirectory}
use Rattle.host_tree.specs.Below.{AreEnds}
use Rattle.host_tree.specs.Acts.{StaysOrGoes, LosesPart, moded, with_mode, without}
use Rattle.host_tree.specs.Image.{kept_in, HasNoneBelow, IsLastBelow, LosesBelow}
use Rattle.host_tree.specs.Paths.{is_above, goes_on}
use Rattle.host_tree.specs.declared.entry.Entry.{Entry}
use Rattle.host_tree.proofs.BelowLemmas.{in_range, from_range, goes_on-less}
use Rattle.host_tree.proofs.EntryLemmas.{at-removed, at-with_mode, at-without, same_host}
use Rattle.host_tree.proofs.PathLemmas.{above-goes_on, above-some, above-trans}

pub at-kept_in : (m : BTreeMap (List ℕ) Entry) (q : List ℕ) → at (kept_in m) q ≡ get (slice_cmp nat_cmp) m q
at-kept_in m q = get-from_entries nat_list_cmp_total m.entries q ∙ sym (get_text m q)

pub kept_in-insert : (m n : BTreeMap (List ℕ) Entry) (k : List ℕ) (v : Entry) → ((q : List ℕ) → get (slice_cmp nat_cmp) n q ≡ cond (is_at (slice_cmp nat_cmp k) q) (Some v) (get (slice_cmp nat_cmp) m q))
    → kept_in n ≡ finite.insert (kept_in m) k v
kept_in-insert m n k v updated = text_map-insert m n k v updated

pub kept_in-remove : (m n : BTreeMap (List ℕ) Entry) (k : List ℕ) → ((q : List ℕ) → get (slice_cmp nat_cmp) n q ≡ cond (is_at (slice_cmp nat_cmp k) q) None (get (slice_cmp nat_cmp) m q))
    → kept_in n ≡ finite.remove (kept_in m) k
kept_in-remove m n k updated =
    same_host (kept_in n) (finite.remove (kept_in m) k)
    (λ q. at-kept_in n q ∙ updated q ∙ ap (λ (b : Bool). cond b None (get (slice_cmp nat_cmp) m q)) (eq_by_cmp-text k q ∙ bytes_eq-symm k q)
    ∙ ap (λ (found : Option Entry). cond (bytes_eq q k) None found) (sym (at-kept_in m q)) ∙ sym (at-removed k (kept_in m) q))

-- ---- the entries in their order

front_put : (e : List ℕ × Entry) (es : List (List ℕ × Entry)) → IsStrictlySortedBy (slice_cmp nat_cmp) (keys_of (e ∷ es)) → put (slice_cmp nat_cmp) e.0 e.1 es ≡ e ∷ es
unfolding IsStrictlySortedBy
front_put e [] sorted = refl
front_put e (f ∷ es) sorted = ap (λ (o : Ordering). by_order o (e ∷ f ∷ es) ((f.0, e.1) ∷ es) (f ∷ put (slice_cmp nat_cmp) e.0 e.1 es)) sorted.0.0

no_length : (es : List (List ℕ × Entry)) → length es ≡ 0 → es ≡ []
no_length [] is = refl
no_length (e ∷ es) is = absurd (omega (arith, is))

pub entries-sorted : (es : List (List ℕ × Entry)) → IsStrictlySortedBy (slice_cmp nat_cmp) (keys_of es) → finite.entries (finite.from_entries {R = slice_cmp nat_cmp} es) ≡ es
unfolding IsStrictlySortedBy
entries-sorted [] sorted = no_length (finite.entries finite.empty) (sym (len-entries finite.empty) ∙ len-empty (slice_cmp nat_cmp) Entry)
entries-sorted (e ∷ es) sorted = entries-insert nat_list_cmp_total (finite.from_entries es) e.0 e.1 ∙ ap (put (slice_cmp nat_cmp) e.0 e.1) (entries-sorted es sorted.1) ∙ front_put e es sorted

-- ---- what is below

-- among some keys one passes a test
some_key : (P : List ℕ → Bool) (ks : List (List ℕ)) → list_any P ks ≡ true → (k : List ℕ) × (P k ≡ true) × (list_any (eq_by_cmp (slice_cmp nat_cmp) k) ks ≡ true)
some_key P [] is = absurd (true≢false (sym is))
some_key P (k ∷ ks) is = from (or_cases (P k) (list_any P ks) is) (some_key P ks)
  where
    from : (P k ≡ true) ⊎ (list_any P ks ≡ true) → (list_any P ks ≡ true → (q : List ℕ) × (P q ≡ true) × (list_any (eq_by_cmp (slice_cmp nat_cmp) q) ks ≡ true))
        → (q : List ℕ) × (P q ≡ true) × (list_any (eq_by_cmp (slice_cmp nat_cmp) q) (k ∷ ks) ≡ true)
    from (inl here) rest = (k, here, or_left _ _ (eq_by_cmp-text k k ∙ (bytes_decides k k).1 refl))
    from (inr later) rest = ((rest later).0, (rest later).1, or_right _ _ (rest later).2)

key_any : (P : List ℕ → Bool) (q : List ℕ) (ks : List (List ℕ)) → P q ≡ true → list_any (eq_by_cmp (slice_cmp nat_cmp) q) ks ≡ true → list_any P ks ≡ true
key_any P q [] is among = among
key_any P q (k ∷ ks) is among = from (or_cases (eq_by_cmp (slice_cmp nat_cmp) q k) (list_any (eq_by_cmp (slice_cmp nat_cmp) q) ks) among) (key_any P q ks is)
  where
    from : (eq_by_cmp (slice_cmp nat_cmp) q k ≡ true) ⊎ (list_any (eq_by_cmp (slice_cmp nat_cmp) q) ks ≡ true) → (list_any (eq_by_cmp (slice_cmp nat_cmp) q) ks ≡ true → list_any P ks ≡ true) → list_any P (k ∷ ks) ≡ true
    from (inl same) rest = or_left _ _ (ap P (sym ((bytes_decides q k).0 (sym (eq_by_cmp-text q k) ∙ same))) ∙ is)
    from (inr later) rest = or_right _ _ (rest later)

pub below-none : (path : List ℕ) (host : Entries) → HasNoneBelow host path → has_below host path ≡ false
below-none path host none = decide (cases_Bool (has_below host path))
  where
    found : has_below host path ≡ true → ⊥
    found is =
        let key = some_key (is_above path) (finite.keys host) is in
        true≢false (sym (contains_key-keys host key.0 ∙ key.2) ∙ ap is_some (none key.0 key.1))

    decide : (has_below host path ≡ true) ⊎ (has_below host path ≡ false) → has_below host path ≡ false
    decide (inl is) = absurd (found is)
    decide (inr is) = is

pub below-some : (path q : List ℕ) (entry : Entry) (host : Entries) → is_above path q ≡ true → at host q ≡ Some entry → has_below host path ≡ true
below-some path q entry host is has = key_any (is_above path) q (finite.keys host) is (sym (contains_key-keys host q) ∙ ap is_some has)

-- ---- the calls of the map

none_some : {X : Type 0} (found : Option X) → (IsSome found → ⊥) → found ≡ None
none_some None never = refl
none_some (Some x) never = absurd (never refl)

pub host-empty : (m : BTreeMap (List ℕ) Entry) → m.entries ≡ [] → IsHost (kept_in m)
host-empty m none path entry has =
    absurd (some_none (sym has ∙ ap (λ (es : List (List ℕ × Entry)). at (finite.from_entries es) path) none ∙ get-empty (slice_cmp nat_cmp) path))
  where
    some_none : Some entry ≡ None → ⊥
    some_none is = true≢false (ap is_some is)

pub kept-put : (m n : BTreeMap (List ℕ) Entry) (host : Entries) (k path : List ℕ) (v : Entry) → kept_in m ≡ host → k ≡ path
    → ((q : List ℕ) → get (slice_cmp nat_cmp) n q ≡ cond (is_at (slice_cmp nat_cmp k) q) (Some v) (get (slice_cmp nat_cmp) m q))
    → kept_in n ≡ finite.insert host path v
kept-put m n host k path v is same updated = kept_in-insert m n k v updated ∙ ap (λ (h : Entries). finite.insert h k v) is ∙ ap (λ (p : List ℕ). finite.insert host p v) same

-- the part of a map between the ends of what is below a path
abbrev IsBelowOf : List ℕ → BTreeMap (List ℕ) Entry → List (List ℕ × Entry) → Type 0
IsBelowOf path m r = IsRangeOf (slice_cmp nat_cmp) (Included (path ++ 47 ∷ [])) (Excluded (path ++ 48 ∷ [])) m r

below_of : (path from to : List ℕ) (m : BTreeMap (List ℕ) Entry) (r : List (List ℕ × Entry)) → AreEnds path from to → IsRangeOf (slice_cmp nat_cmp) (Included from) (Excluded to) m r → IsBelowOf path m r
below_of path from to m r ends range =
    subst (λ (t : List ℕ). IsRangeOf (slice_cmp nat_cmp) (Included (path ++ 47 ∷ [])) (Excluded t) m r) ends.1
    (subst (λ (f : List ℕ). IsRangeOf (slice_cmp nat_cmp) (Included f) (Excluded to) m r) ends.0 range)

-- where that part is empty nothing is below
empty_below : (m : BTreeMap (List ℕ) Entry) (host : Entries) (path : List ℕ) (r : List (List ℕ × Entry)) → kept_in m ≡ host → 0 < length path → IsBelowOf path m r → r ≡ [] → HasNoneBelow host path
empty_below m host path r is some range empty q above =
    ap (λ (h : Entries). at h q) (sym is) ∙ at-kept_in m q ∙ range.5 empty q (in_range path q (sym (above-goes_on path q some) ∙ above))

-- the first of what is below a path tells whether something is
pub first_below : {A : Type 0} (shows : A → List ℕ × Entry) (m : BTreeMap (List ℕ) Entry) (host : Entries) (path from to : List ℕ) (r rest : List (List ℕ × Entry)) (found : Option A)
    → kept_in m ≡ host → 0 < length path → AreEnds path from to → IsRangeOf (slice_cmp nat_cmp) (Included from) (Excluded to) m r → TakesFirst shows r found rest → is_some found ≡ has_below host path
first_below shows m host path from to r rest None is some ends range takes =
    sym (below-none path host (empty_below m host path r is some (below_of path from to m r ends range) takes.0))
first_below shows m host path from to r rest (Some x) is some ends range takes =
    let e : List ℕ × Entry = shows x in
    let first : IsEntryInRange (slice_cmp nat_cmp) (Included (path ++ 47 ∷ [])) (Excluded (path ++ 48 ∷ [])) m e
    = subst (λ (es : List (List ℕ × Entry)). IfSome (slice_get es 0) (IsEntryInRange (slice_cmp nat_cmp) (Included (path ++ 47 ∷ [])) (Excluded (path ++ 48 ∷ [])) m)) takes (below_of path from to m r ends range).1 in
    sym (below-some path e.0 e.1 host (above-goes_on path e.0 some ∙ from_range path e.0 first.0) (ap (λ (h : Entries). at h e.0) (sym is) ∙ at-kept_in m e.0 ∙ first.1))

-- below the last of what is below a path nothing is
pub last_below : (m : BTreeMap (List ℕ) Entry) (host : Entries) (path from to : List ℕ) (r rest : List (List ℕ × Entry)) (e : List ℕ × Entry)
    → kept_in m ≡ host → 0 < length path → AreEnds path from to → IsRangeOf (slice_cmp nat_cmp) (Included from) (Excluded to) m r → r ≡ rest ++ e ∷ [] → IsLastBelow host path (Some e.0)
last_below m host path from to r rest e is some ends range takes =
    let part : IsBelowOf path m r = below_of path from to m r ends range in
    let here : is_above path e.0 ≡ true = above-goes_on path e.0 some ∙ from_range path e.0 (part.3 e rest takes).0 in
    let later : (q : List ℕ) → is_above e.0 q ≡ true → IsSome (get (slice_cmp nat_cmp) m q) → ⊥
    = λ q above there.
    let within : goes_on path q ≡ true = sym (above-goes_on path q some) ∙ above-trans path e.0 q here above in
    let not_last : is_lt (slice_cmp nat_cmp e.0 q) ≡ false = part.4 e rest takes q (in_range path q within) there in
    true≢false (sym (ap is_lt (goes_on-less e.0 q (sym (above-goes_on e.0 q (above-some e.0 q above)) ∙ above))) ∙ not_last) in
    let there : IsSome (at host e.0) = ap is_some (ap (λ (h : Entries). at h e.0) (sym is) ∙ at-kept_in m e.0 ∙ (part.3 e rest takes).1) in
    (here, there, λ q above. ap (λ (h : Entries). at h q) (sym is) ∙ at-kept_in m q ∙ none_some (get (slice_cmp nat_cmp) m q) (later q above))

pub none_below : (m : BTreeMap (List ℕ) Entry) (host : Entries) (path from to : List ℕ) (r : List (List ℕ × Entry))
    → kept_in m ≡ host → 0 < length path → AreEnds path from to → IsRangeOf (slice_cmp nat_cmp) (Included from) (Excluded to) m r → r ≡ [] → IsLastBelow host path None
none_below m host path from to r is some ends range empty = empty_below m host path r is some (below_of path from to m r ends range) empty

-- ---- removing

pub kept-take : (m n : BTreeMap (List ℕ) Entry) (host : Entries) (k : List ℕ) → kept_in m ≡ host
    → ((q : List ℕ) → get (slice_cmp nat_cmp) n q ≡ cond (is_at (slice_cmp nat_cmp k) q) None (get (slice_cmp nat_cmp) m q)) → kept_in n ≡ finite.remove host k
kept-take m n host k is updated = kept_in-remove m n k updated ∙ ap (λ (h : Entries). finite.remove h k) is

none_moded : (b : Bool) (m : BTreeMap (List ℕ) Entry) (path q : List ℕ) (mode : ℕ) → bytes_eq path q ≡ b → get (slice_cmp nat_cmp) m path ≡ None
    → get (slice_cmp nat_cmp) m q ≡ cond b (option_map (moded mode) (get (slice_cmp nat_cmp) m path)) (get (slice_cmp nat_cmp) m q)
none_moded true m path q mode is none = ap (get (slice_cmp nat_cmp) m) (sym ((bytes_decides path q).0 is)) ∙ none ∙ ap (option_map (moded mode)) (sym none)
none_moded false m path q mode is none = refl

-- where nothing stands no mode is changed
pub moded-none : (m : BTreeMap (List ℕ) Entry) (path q : List ℕ) (mode : ℕ) → get (slice_cmp nat_cmp) m path ≡ None
    → get (slice_cmp nat_cmp) m q ≡ cond (is_at (slice_cmp nat_cmp path) q) (option_map (moded mode) (get (slice_cmp nat_cmp) m path)) (get (slice_cmp nat_cmp) m q)
moded-none m path q mode none = none_moded (is_at (slice_cmp nat_cmp path) q) m path q mode (sym (eq_by_cmp-text path q)) none

pub kept-moded : (m n : BTreeMap (List ℕ) Entry) (host : Entries) (path : List ℕ) (mode : ℕ) → kept_in m ≡ host
    → ((q : List ℕ) → get (slice_cmp nat_cmp) n q ≡ cond (is_at (slice_cmp nat_cmp path) q) (option_map (moded mode) (get (slice_cmp nat_cmp) m path)) (get (slice_cmp nat_cmp) m q)) → kept_in n ≡ with_mode path mode host
kept-moded m n host path mode is updated =
    same_host (kept_in n) (with_mode path mode host)
    (λ q. at-kept_in n q ∙ updated q
    ∙ ap (λ (b : Bool). cond b (option_map (moded mode) (get (slice_cmp nat_cmp) m path)) (get (slice_cmp nat_cmp) m q)) (eq_by_cmp-text path q ∙ bytes_eq-symm path q)
    ∙ ap (λ (found : Option Entry). cond (bytes_eq q path) (option_map (moded mode) found) (get (slice_cmp nat_cmp) m q)) (sym (at-kept_in m path))
    ∙ ap (λ (found : Option Entry). cond (bytes_eq q path) (option_map (moded mode) (at (kept_in m) path)) found) (sym (at-kept_in m q))
    ∙ ap (λ (h : Entries). cond (bytes_eq q path) (option_map (moded mode) (at h path)) (at h q)) is
    ∙ sym (at-with_mode path mode host q))

-- what stands alone can go, and a host is left
host-take_at : (b : Bool) (path above q : List ℕ) (entry : Entry) (host : Entries) → bytes_eq above path ≡ b → HasNoneBelow host path → at host q ≡ Some entry → is_above above q ≡ true → IsDirectory (at host above)
    → IsDirectory (cond b None (at host above))
host-take_at true path above q entry host is none has over was =
    absurd (true≢false (ap is_some (sym has ∙ none q (subst (λ (p : List ℕ). is_above p q ≡ true) ((bytes_decides above path).0 is) over))))
host-take_at false path above q entry host is none has over was = was

kept_other : (b : Bool) (found : Option Entry) (entry : Entry) → cond b None found ≡ Some entry → found ≡ Some entry
kept_other true found entry is = cc
kept_other false found entry is = is

pub host-take : (path : List ℕ) (host : Entries) → IsHost host → HasNoneBelow host path → IsHost (finite.remove host path)
host-take path host whole none q found has =
    let was : at host q ≡ Some found = kept_other (bytes_eq q path) (at host q) found (sym (at-removed path host q) ∙ has) in
    let parts = whole q found was in
    (parts.0, λ above is. subst IsDirectory (sym (at-removed path host above)) (host-take_at (bytes_eq above path) path above q found host refl none was is (parts.1 above is)))

-- one entry fewer
pub len-take : (path : List ℕ) (host : Entries) → IsSome (at host path) → finite.len (finite.remove host path) < finite.len host
len-take path host there = fewer (finite.len host) refl
  where
    fewer : (n : ℕ) → finite.len host ≡ n → finite.len (finite.remove host path) < finite.len host
    fewer zero is = absurd (true≢false (sym there ∙ ap (λ (h : Entries). is_some (at h path)) (empty_of_len host is) ∙ ap is_some (get-empty (slice_cmp nat_cmp) path)))
    fewer (suc n) is =
        let count : finite.len (finite.remove host path) ≡ finite.len host - 1
        = len-remove nat_list_cmp_total host path ∙ ap (λ (b : Bool). cond b (finite.len host - 1) (finite.len host)) there in
        omega (arith, count, is)

pub loses-none : (path : List ℕ) (host : Entries) → LosesBelow path host host
loses-none path host = record { below = λ q above. inl refl; elsewhere = λ q apart. refl }

stays_or_none : (b : Bool) (before after : Option Entry) → StaysOrGoes before after → StaysOrGoes before (cond b None after)
stays_or_none true before after was = inr refl
stays_or_none false before after was = was

not_above : (b : Bool) (path last q : List ℕ) (found : Option Entry) → bytes_eq q last ≡ b → is_above path last ≡ true → is_above path q ≡ false → cond b None found ≡ found
not_above true path last q found same over apart = absurd (true≢false (sym over ∙ ap (is_above path) (sym ((bytes_decides q last).0 same)) ∙ apart))
not_above false path last q found same over apart = refl

pub loses-more : (path last : List ℕ) (host mid : Entries) → LosesBelow path host mid → is_above path last ≡ true → LosesBelow path host (finite.remove mid last)
loses-more path last host mid part over = record {
  below = λ q above. subst (StaysOrGoes (at host q)) (sym (at-removed last mid q)) (stays_or_none (bytes_eq q last) (at host q) (at mid q) (part.below q above));
  elsewhere = λ q apart. at-removed last mid q ∙ not_above (bytes_eq q last) path last q (at mid q) refl over apart ∙ part.elsewhere q apart;
}

-- below what is no directory nothing is, so nothing goes
gone_none : (before after : Option Entry) → before ≡ None → StaysOrGoes before after → after ≡ before
gone_none before after none (inl same) = same
gone_none before after none (inr gone) = gone ∙ sym none

pub loses-part : (path : List ℕ) (host new : Entries) → IsHost host → LosesBelow path host new → LosesPart path host new
loses-part path host new whole part = record {
  below = part.below;
  elsewhere = part.elsewhere;
  directory = λ other. same_host new host (λ q. at_q q other (cases_Bool (is_above path q)));
}
  where
    nothing : (q : List ℕ) → (IsDirectory (at host path) → ⊥) → is_above path q ≡ true → IsSome (at host q) → ⊥
    nothing q other above there = some_entry (at host q) refl there
      where
        some_entry : (found : Option Entry) → at host q ≡ found → IsSome (at host q) → ⊥
        some_entry None is there = true≢false (sym there ∙ ap is_some is)
        some_entry (Some entry) is there = other ((whole q entry is).1 path above)

    at_q : (q : List ℕ) → (IsDirectory (at host path) → ⊥) → (is_above path q ≡ true) ⊎ (is_above path q ≡ false) → at new q ≡ at host q
    at_q q other (inl above) = gone_none (at host q) (at new q) (none_some (at host q) (nothing q other above)) (part.below q above)
    at_q q other (inr apart) = part.elsewhere q apart

without_at : (b c : Bool) (before mid : Option Entry) → (c ≡ true → mid ≡ None) → (c ≡ false → mid ≡ before) → cond b None mid ≡ cond (b || c) None before
without_at true c before mid none same = refl
without_at false true before mid none same = none refl
without_at false false before mid none same = same refl

pub removed-all : (path : List ℕ) (host mid : Entries) → LosesBelow path host mid → HasNoneBelow mid path → finite.remove mid path ≡ without path host
removed-all path host mid part none =
    same_host (finite.remove mid path) (without path host)
    (λ q. at-removed path mid q ∙ ap (λ (b : Bool). cond b None (at mid q)) (bytes_eq-symm q path) ∙ without_at (bytes_eq path q) (is_above path q) (at host q) (at mid q) (none q) (part.elsewhere q) ∙ sym (at-without path host q))

-- one step of taking what is below
pub takes-last : (path last : List ℕ) (host mid : Entries) → LosesBelow path host mid → IsLastBelow mid path (Some last)
    → LosesBelow path host (finite.remove mid last) × (finite.len (finite.remove mid last) < finite.len mid)
takes-last path last host mid part is = (loses-more path last host mid part is.0, len-take last mid is.1)
