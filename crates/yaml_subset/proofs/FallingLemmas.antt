-- Fields to which keys are added that are below all others.
use Rattle.std.proofs.Common.{◌≡◌, ◌<◌, ◌≤◌, ◌+◌, ◌-◌, ℕ, zero, suc, List, [], ◌∷◌, ◌++◌, length, get_or, map, reverse, take, slice_get, Bool, ◌||◌, cond, Option, Some, None, true, false, is_some, Less, is_lt, nat_cmp, bytes_eq, is_eq, refl, sym, ap, ◌∙◌, subst, arith}
use Rattle.std.proofs.Math.Bool.{or_comm}
use Rattle.std.proofs.lemmas.List.{map-append, reverse-append}
use Rattle.std.proofs.lemmas.Map.Text.{is_eq-slice_cmp}
use Rattle.std.proofs.lemmas.Option.{none-some, same_Some}
use Rattle.std.specs.BTreeMap.{insert_entry}
use Rattle.std.specs.Cmp.Lexicographic.{slice_cmp, nat_list_cmp_total}
use Rattle.std.specs.List.{AllByRecursion}
use Rattle.std.specs.List.Sorted.{IsStrictlySortedBy}
use Rattle.std.specs.Map.{keys_of}
use Rattle.std.specs.Ordering.{match_ordering}
use Rattle.doc_tree.specs.Doc.{Doc, pairs_of}
use Rattle.doc_tree.specs.Part.{pair_at}
use Rattle.doc_tree.specs.Tree.{doc_of, pair_of}
use Rattle.doc_tree.specs.Valid.{InOrder}
use Rattle.doc_tree.specs.declared.tree.Field.{Field}
use Rattle.doc_tree.proofs.Maps.{bytes_eq-symm}
use Rattle.yaml_subset.proofs.PairsLemmas.{last_is, lt_less}

all_above : (k l : List ℕ) (ks : List (List ℕ)) → slice_cmp nat_cmp k l ≡ Less → AllByRecursion (λ y. slice_cmp nat_cmp l y ≡ Less) ks → AllByRecursion (λ y. slice_cmp nat_cmp k y ≡ Less) ks
all_above k l [] less all = tt
all_above k l (x ∷ ks) less all = (nat_list_cmp_total.trans k l x less all.0, all_above k l ks less all.1)

-- a key below the first one is below all
below_order : (key : List ℕ) (e : List ℕ × Doc) (es : List (List ℕ × Doc)) → slice_cmp nat_cmp key e.0 ≡ Less → InOrder (keys_of (e ∷ es)) → InOrder (key ∷ keys_of (e ∷ es))
unfolding IsStrictlySortedBy
below_order key e es less order = ((less, all_above key e.0 (keys_of es) less order.0), order)

-- what stands last stands first in reverse
first_is : {A : Type 0} (s : List A) (i : ℕ) (x : A) → slice_get s i ≡ Some x → length s ≤ i + 1 → (rest : List A) × (reverse s ≡ x ∷ rest)
first_is [] i x is last = absurd (none-some x is)
first_is (y ∷ []) zero x is last = ([], ap (λ z. z ∷ []) (same_Some y x is))
first_is (y ∷ z ∷ s) zero x is last = absurd (omega (arith, last))
first_is (y ∷ s) (suc i) x is last =
    let (rest, same) = first_is s i x is (omega (arith, last)) in
    (rest ++ y ∷ [], reverse-append (y ∷ []) s ∙ ap (λ t. t ++ y ∷ []) same)

-- a key below that of the last field
pub field_below : (fs : List Field) (f : Field) (key : List ℕ) (less : Bool) → InOrder (keys_of (map pair_of (reverse fs))) → Some f ≡ slice_get fs (length fs - 1) → less ≡ is_lt (slice_cmp nat_cmp key f.key)
    → less ≡ true → InOrder (key ∷ keys_of (map pair_of (reverse fs)))
field_below fs f key less order last is holds =
    let (rest, same) = first_is fs (length fs - 1) f (sym last) (omega arith) in
    let there = subst (λ (gs : List Field). InOrder (keys_of (map pair_of gs))) same order in
    subst (λ (gs : List Field). InOrder (key ∷ keys_of (map pair_of gs))) (sym same) (below_order key (pair_of f) (map pair_of rest) (lt_less _ (sym is ∙ holds)) there)

first_key : (key k : List ℕ) (ks : List (List ℕ)) → InOrder (key ∷ k ∷ ks) → slice_cmp nat_cmp key k ≡ Less
unfolding IsStrictlySortedBy
first_key key k ks order = order.0.0

-- and only such a key
pub below_field : (fs : List Field) (f : Field) (key : List ℕ) (less : Bool) → Some f ≡ slice_get fs (length fs - 1) → less ≡ is_lt (slice_cmp nat_cmp key f.key)
    → InOrder (key ∷ keys_of (map pair_of (reverse fs))) → less ≡ true
below_field fs f key less last is order =
    let (rest, same) = first_is fs (length fs - 1) f (sym last) (omega arith) in
    is ∙ ap is_lt (first_key key f.key (keys_of (map pair_of rest)) (subst (λ (gs : List Field). InOrder (key ∷ keys_of (map pair_of gs))) same order))

-- and any key, where there is none
pub alone_below : (fs : List Field) (key : List ℕ) → None ≡ slice_get fs (length fs - 1) → InOrder (key ∷ keys_of (map pair_of (reverse fs)))
unfolding IsStrictlySortedBy
alone_below [] key none = (tt, tt)
alone_below (f ∷ fs) key none = absurd (none-some _ (none ∙ last_is f fs))

-- a key below all is at none of them
pub none_below : (es : List (List ℕ × Doc)) (key : List ℕ) → InOrder (key ∷ keys_of es) → pair_at key (pairs_of es) ≡ None
unfolding IsStrictlySortedBy
none_below es key order = none es order.0
  where
    none : (es : List (List ℕ × Doc)) → AllByRecursion (λ y. slice_cmp nat_cmp key y ≡ Less) (keys_of es) → pair_at key (pairs_of es) ≡ None
    none [] all = refl
    none (e ∷ es) all = rw (bytes_eq-symm e.0 key ∙ sym (is_eq-slice_cmp key e.0) ∙ ap is_eq all.0) (none es all.1)

-- and goes before them
pub insert_first : (es : List (List ℕ × Doc)) (key : List ℕ) (d : Doc) → InOrder (key ∷ keys_of es) → insert_entry (slice_cmp nat_cmp) es key d ≡ (key, d) ∷ es
unfolding IsStrictlySortedBy
insert_first [] key d order = refl
insert_first (e ∷ es) key d order = ap (λ o. match_ordering o ((key, d) ∷ e ∷ es) ((e.0, d) ∷ es) (e ∷ insert_entry (slice_cmp nat_cmp) es key d)) order.0.0

-- as the last of the fields
pub put_is : (fs gs : List Field) (f : Field) (d : Doc) (es : List (List ℕ × Doc)) → gs ≡ fs ++ f ∷ [] → doc_of f.tree ≡ d → map pair_of (reverse fs) ≡ es → InOrder (f.key ∷ keys_of es)
    → map pair_of (reverse gs) ≡ insert_entry (slice_cmp nat_cmp) es f.key d
put_is fs gs f d es is same are order =
    ap (λ (s : List Field). map pair_of (reverse s)) is
    ∙ ap (λ (s : List Field). map pair_of s) (reverse-append fs (f ∷ []))
    ∙ ap (λ (x : Doc). (f.key, x) ∷ map pair_of (reverse fs)) same
    ∙ ap (λ (s : List (List ℕ × Doc)). (f.key, d) ∷ s) are
    ∙ sym (insert_first es f.key d order)

-- ---- whether a key is there, in either order

cond_or : (b : Bool) (d : Doc) (o p : Option Doc) (c : Bool) → is_some p ≡ (is_some o || c) → is_some (cond b (Some d) p) ≡ (is_some (cond b (Some d) o) || c)
cond_or true d o p c is = refl
cond_or false d o p c is = is

some_append : (key : List ℕ) (xs ys : List (List ℕ × Doc)) → is_some (pair_at key (pairs_of (xs ++ ys))) ≡ (is_some (pair_at key (pairs_of xs)) || is_some (pair_at key (pairs_of ys)))
some_append key [] ys = refl
some_append key (x ∷ xs) ys = cond_or (bytes_eq x.0 key) x.1 (pair_at key (pairs_of xs)) (pair_at key (pairs_of (xs ++ ys))) _ (some_append key xs ys)

pub some_reverse : (key : List ℕ) (fs : List Field) → is_some (pair_at key (pairs_of (map pair_of fs))) ≡ is_some (pair_at key (pairs_of (map pair_of (reverse fs))))
some_reverse key [] = refl
some_reverse key (f ∷ fs) =
    some_append key (pair_of f ∷ []) (map pair_of fs)
    ∙ ap (λ (b : Bool). is_some (pair_at key (pairs_of (pair_of f ∷ []))) || b) (some_reverse key fs)
    ∙ or_comm (is_some (pair_at key (pairs_of (pair_of f ∷ [])))) (is_some (pair_at key (pairs_of (map pair_of (reverse fs)))))
    ∙ sym (some_append key (map pair_of (reverse fs)) (pair_of f ∷ []))
    ∙ ap (λ (es : List (List ℕ × Doc)). is_some (pair_at key (pairs_of es))) (sym (map-append pair_of (reverse fs) (f ∷ [])) ∙ ap (map pair_of) (sym (reverse-append (f ∷ []) fs)))

-- ---- looking for a key

later_some : (b : Bool) (d : Doc) (o : Option Doc) → true ≡ is_some o → true ≡ is_some (cond b (Some d) o)
later_some true d o is = refl
later_some false d o is = is

pub found_at : (key : List ℕ) (fs : List Field) (i : ℕ) (f : Field) → i < length fs → f ≡ get_or fs i f → bytes_eq f.key key ≡ true → true ≡ is_some (pair_at key (pairs_of (map pair_of fs)))
found_at key [] i f within is same = absurd (omega (arith, within))
found_at key (g ∷ fs) zero f within is same =
    let here : bytes_eq g.key key ≡ true = subst (λ (h : Field). bytes_eq h.key key ≡ true) is same in rw here refl
found_at key (g ∷ fs) (suc i) f within is same = later_some (bytes_eq g.key key) (doc_of g.tree) (pair_at key (pairs_of (map pair_of fs))) (found_at key fs i f (omega (arith, within)) is same)

cond_none : (b : Bool) (d : Doc) (o p : Option Doc) → is_some (cond b (Some d) o) ≡ false → (is_some o ≡ false → is_some p ≡ false) → is_some (cond b (Some d) p) ≡ false
cond_none true d o p none goes = cc
cond_none false d o p none goes = goes none

pub none_more : (key : List ℕ) (fs : List Field) (i : ℕ) (f : Field) → i < length fs → f ≡ get_or fs i f → bytes_eq f.key key ≡ false
    → is_some (pair_at key (pairs_of (map pair_of (take i fs)))) ≡ false → is_some (pair_at key (pairs_of (map pair_of (take (suc i) fs)))) ≡ false
none_more key [] i f within is other none = absurd (omega (arith, within))
none_more key (g ∷ fs) zero f within is other none =
    let here : bytes_eq g.key key ≡ false = subst (λ (h : Field). bytes_eq h.key key ≡ false) is other in rw here refl
none_more key (g ∷ fs) (suc i) f within is other none =
    cond_none (bytes_eq g.key key) (doc_of g.tree) (pair_at key (pairs_of (map pair_of (take i fs)))) (pair_at key (pairs_of (map pair_of (take (suc i) fs)))) none (none_more key fs i f (omega (arith, within)) is other)
