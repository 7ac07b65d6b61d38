-- Where a key stands in a dict.
use Rattle.std.proofs.Common.{◌≡◌, ◌<◌, ◌≤◌, ℕ, zero, suc, List, [], ◌∷◌, map, take, drop, set, get_or, slice_get, length, insert, Some, None, true, false, bytes_eq, is_eq, Less, Equal, Greater, nat_cmp, refl, sym, ap, ◌∙◌, subst, arith}
use Rattle.std.proofs.lemmas.Cmp.{nat_list_cmp_total}
use Rattle.std.proofs.lemmas.Map.Text.{is_eq-slice_cmp}
use Rattle.std.proofs.lemmas.Option.{same_Some, slice_get_within}
use Rattle.std.specs.Cmp.Lexicographic.{slice_cmp, nat_list_eq_equiv}
use Rattle.std.specs.FinMap.{slice_cmp-IsAntisymmetric, nat_cmp-IsAntisymmetric}
use Rattle.std.specs.List.{AllByRecursion}
use Rattle.std.specs.List.Sorted.{IsStrictlySortedBy}
use Rattle.std.specs.Map.{keys_of}
use Rattle.std.specs.Ordering.{ordering_reverse}
use Rattle.doc_tree.specs.Doc.{Doc, pairs_of}
use Rattle.doc_tree.specs.Part.{pair_at, with_pair}
use Rattle.doc_tree.specs.Place.{IsPlace, replaced}
use Rattle.doc_tree.specs.declared.fields.Place.TheVariants.{Held, Gap}
use Rattle.doc_tree.specs.Tree.{doc_of, pair_of}
use Rattle.doc_tree.specs.Valid.{IsDoc, ArePairs, InOrder}
use Rattle.doc_tree.specs.declared.tree.Field.{Field}
use Rattle.doc_tree.proofs.Entries.{InOrder-with_pair}
use Rattle.doc_tree.specs.declared.tree.Tree.{Tree}

-- each of these keys is below the key, or above it
abbrev pub IsAbove : List ℕ → List (List ℕ × Doc) → Type 0
IsAbove k ps = AllByRecursion (λ y. slice_cmp nat_cmp y k ≡ Less) (keys_of ps)

abbrev pub IsBelow : List ℕ → List (List ℕ × Doc) → Type 0
IsBelow k ps = AllByRecursion (λ y. slice_cmp nat_cmp k y ≡ Less) (keys_of ps)

key_at : (P : List ℕ → Type 0) (ps : List (List ℕ × Doc)) (i : ℕ) (p : List ℕ × Doc) → slice_get ps i ≡ Some p → AllByRecursion P (keys_of ps) → P p.0
key_at P [] i p is all = cc
key_at P (q ∷ ps) zero p is all = subst (λ (r : List ℕ × Doc). P r.0) (same_Some q p is) all.0
key_at P (q ∷ ps) (suc i) p is all = key_at P ps i p is all.1

take_more_keys : (P : List ℕ → Type 0) (ps : List (List ℕ × Doc)) (i : ℕ) (p : List ℕ × Doc) → slice_get ps i ≡ Some p → P p.0 → AllByRecursion P (keys_of (take i ps))
    → AllByRecursion P (keys_of (take (suc i) ps))
take_more_keys P [] i p is here all = cc
take_more_keys P (q ∷ ps) zero p is here all = (subst (λ (r : List ℕ × Doc). P r.0) (sym (same_Some q p is)) here, tt)
take_more_keys P (q ∷ ps) (suc i) p is here all = (all.0, take_more_keys P ps i p is here all.1)

drop_more_keys : (P : List ℕ → Type 0) (ps : List (List ℕ × Doc)) (i : ℕ) (p : List ℕ × Doc) → slice_get ps i ≡ Some p → P p.0 → AllByRecursion P (keys_of (drop (suc i) ps))
    → AllByRecursion P (keys_of (drop i ps))
drop_more_keys P [] i p is here all = cc
drop_more_keys P (q ∷ ps) zero p is here all = (subst (λ (r : List ℕ × Doc). P r.0) (sym (same_Some q p is)) here, all)
drop_more_keys P (q ∷ ps) (suc i) p is here all = drop_more_keys P ps i p is here all

-- in a dict, what stands before a key is below it, and what stands after it above
before_is_below : (ps : List (List ℕ × Doc)) (i : ℕ) (p : List ℕ × Doc) → InOrder (keys_of ps) → slice_get ps i ≡ Some p → IsAbove p.0 (take i ps)
unfolding IsStrictlySortedBy
before_is_below [] i p order is = cc
before_is_below (q ∷ ps) zero p order is = tt
before_is_below (q ∷ ps) (suc i) p order is = (key_at (λ y. slice_cmp nat_cmp q.0 y ≡ Less) ps i p is order.0, before_is_below ps i p order.1 is)

after_is_above : (ps : List (List ℕ × Doc)) (i : ℕ) (p : List ℕ × Doc) → InOrder (keys_of ps) → slice_get ps i ≡ Some p → IsBelow p.0 (drop (suc i) ps)
unfolding IsStrictlySortedBy
after_is_above [] i p order is = cc
after_is_above (q ∷ ps) zero p order is = subst (λ (r : List ℕ × Doc). IsBelow r.0 ps) (same_Some q p is) order.0
after_is_above (q ∷ ps) (suc i) p order is = after_is_above ps i p order.1 is

above_all : (k l : List ℕ) (ps : List (List ℕ × Doc)) → slice_cmp nat_cmp l k ≡ Less → IsAbove l ps → IsAbove k ps
above_all k l [] h all = tt
above_all k l (p ∷ ps) h all = (nat_list_cmp_total.trans p.0 l k all.0 h, above_all k l ps h all.1)

below_all : (k l : List ℕ) (ps : List (List ℕ × Doc)) → slice_cmp nat_cmp k l ≡ Less → IsBelow l ps → IsBelow k ps
below_all k l [] h all = tt
below_all k l (p ∷ ps) h all = (nat_list_cmp_total.trans k l p.0 h all.0, below_all k l ps h all.1)

-- ---- one step of the search

pub above_middle : (k : List ℕ) (ps : List (List ℕ × Doc)) (i : ℕ) (p : List ℕ × Doc) → InOrder (keys_of ps) → slice_get ps i ≡ Some p → slice_cmp nat_cmp k p.0 ≡ Greater → IsAbove k (take (suc i) ps)
above_middle k ps i p order is h =
    let under : slice_cmp nat_cmp p.0 k ≡ Less = nat_list_cmp_total.antisymm p.0 k ∙ ap ordering_reverse h in
    take_more_keys (λ y. slice_cmp nat_cmp y k ≡ Less) ps i p is under (above_all k p.0 (take i ps) under (before_is_below ps i p order is))

pub below_middle : (k : List ℕ) (ps : List (List ℕ × Doc)) (i : ℕ) (p : List ℕ × Doc) → InOrder (keys_of ps) → slice_get ps i ≡ Some p → slice_cmp nat_cmp k p.0 ≡ Less → IsBelow k (drop i ps)
below_middle k ps i p order is h = drop_more_keys (λ y. slice_cmp nat_cmp k y ≡ Less) ps i p is h (below_all k p.0 (drop (suc i) ps) h (after_is_above ps i p order is))

-- ---- what is at the place that was found

other_key : (k l : List ℕ) → slice_cmp nat_cmp l k ≡ Less → bytes_eq l k ≡ false
other_key k l h = sym (is_eq-slice_cmp l k) ∙ ap is_eq h

greater : (k l : List ℕ) → slice_cmp nat_cmp l k ≡ Less → slice_cmp nat_cmp k l ≡ Greater
greater k l h = nat_list_cmp_total.antisymm k l ∙ ap ordering_reverse h

pair_at-none : (k : List ℕ) (ps : List (List ℕ × Doc)) → IsBelow k ps → pair_at k (pairs_of ps) ≡ None
pair_at-none k [] all = refl
pair_at-none k (p ∷ ps) all = rw (nat_list_eq_equiv.symm p.0 k ∙ other_key p.0 k all.0) (pair_at-none k ps all.1)

pair_at-gap : (k : List ℕ) (ps : List (List ℕ × Doc)) (i : ℕ) → IsAbove k (take i ps) → IsBelow k (drop i ps) → pair_at k (pairs_of ps) ≡ None
pair_at-gap k [] i under over = refl
pair_at-gap k (p ∷ ps) zero under over = pair_at-none k (p ∷ ps) over
pair_at-gap k (p ∷ ps) (suc i) under over = rw (other_key k p.0 under.0) (pair_at-gap k ps i under.1 over)

pair_at-held : (k : List ℕ) (ps : List (List ℕ × Doc)) (i : ℕ) (p : List ℕ × Doc) → IsAbove k (take i ps) → slice_get ps i ≡ Some p → k ≡ p.0 → pair_at k (pairs_of ps) ≡ Some p.1
pair_at-held k [] i p under is same = cc
pair_at-held k (q ∷ ps) zero p under is same =
    let here : bytes_eq q.0 k ≡ true = subst (λ (l : List ℕ). bytes_eq l k ≡ true) (same ∙ ap (λ (r : List ℕ × Doc). r.0) (sym (same_Some q p is))) (nat_list_eq_equiv.refl k) in
    rw here (ap (λ (r : List ℕ × Doc). Some r.1) (same_Some q p is))
pair_at-held k (q ∷ ps) (suc i) p under is same = rw (other_key k q.0 under.0) (pair_at-held k ps i p under.1 is same)

with_pair-gap : (k : List ℕ) (d : Doc) (ps : List (List ℕ × Doc)) (i : ℕ) → IsAbove k (take i ps) → IsBelow k (drop i ps) → with_pair k d ps ≡ insert ps i (k, d)
with_pair-gap k d [] zero under over = refl
with_pair-gap k d [] (suc i) under over = refl
with_pair-gap k d (p ∷ ps) zero under over = rw over.0
with_pair-gap k d (p ∷ ps) (suc i) under over = rw (greater k p.0 under.0, with_pair-gap k d ps i under.1 over)

with_pair-held : (k : List ℕ) (d : Doc) (ps : List (List ℕ × Doc)) (i : ℕ) (p : List ℕ × Doc) → IsAbove k (take i ps) → slice_get ps i ≡ Some p → slice_cmp nat_cmp k p.0 ≡ Equal
    → with_pair k d ps ≡ replaced i d ps
with_pair-held k d [] i p under is same = cc
with_pair-held k d (q ∷ ps) zero p under is same =
    let here : slice_cmp nat_cmp k q.0 ≡ Equal = subst (λ (r : List ℕ × Doc). slice_cmp nat_cmp k r.0 ≡ Equal) (sym (same_Some q p is)) same in
    rw here
with_pair-held k d (q ∷ ps) (suc i) p under is same = rw (greater k q.0 under.0, with_pair-held k d ps i p under.1 is same)

pub is_gap : (k : List ℕ) (ps : List (List ℕ × Doc)) (i : ℕ) → i ≤ length ps → IsAbove k (take i ps) → IsBelow k (drop i ps) → IsPlace k ps (Gap i)
is_gap k ps i within under over = (within, pair_at-gap k ps i under over, λ d. with_pair-gap k d ps i under over)

pub is_held : (k : List ℕ) (ps : List (List ℕ × Doc)) (i : ℕ) (p : List ℕ × Doc) → InOrder (keys_of ps) → slice_get ps i ≡ Some p → slice_cmp nat_cmp k p.0 ≡ Equal → IsPlace k ps (Held i)
is_held k ps i p order is same =
    let key : k ≡ p.0 = slice_cmp-IsAntisymmetric nat_cmp-IsAntisymmetric k p.0 same in
    let under : IsAbove k (take i ps) = subst (λ (l : List ℕ). IsAbove l (take i ps)) (sym key) (before_is_below ps i p order is) in
    (slice_get_within ps i p is, rw is (pair_at-held k ps i p under is key), λ d. with_pair-held k d ps i p under is same)

-- ---- a document changes in place

pub keys_of-replaced : (i : ℕ) (d : Doc) (ps : List (List ℕ × Doc)) → keys_of (replaced i d ps) ≡ keys_of ps
keys_of-replaced i d [] = refl
keys_of-replaced zero d (p ∷ ps) = refl
keys_of-replaced (suc i) d (p ∷ ps) = ap (λ rest. p.0 ∷ rest) (keys_of-replaced i d ps)

pub ArePairs-replaced : (i : ℕ) (d : Doc) (ps : List (List ℕ × Doc)) → ArePairs (pairs_of ps) → IsDoc d → ArePairs (pairs_of (replaced i d ps))
ArePairs-replaced i d [] all one = tt
ArePairs-replaced zero d (p ∷ ps) all one = (all.0, one, all.2)
ArePairs-replaced (suc i) d (p ∷ ps) all one = (all.0, all.1, ArePairs-replaced i d ps all.2 one)

pub replaced_fields : (fs : List Field) (i : ℕ) (f : Field) (t : Tree) → i < length fs → f ≡ get_or fs i f
    → map pair_of (set fs i (record { key = f.key; tree = t })) ≡ replaced i (doc_of t) (map pair_of fs)
replaced_fields [] i f t within is = absurd (omega arith)
replaced_fields (g ∷ fs) zero f t within is = ap (λ (h : Field). (h.key, doc_of t) ∷ map pair_of fs) is
replaced_fields (g ∷ fs) (suc i) f t within is = ap (λ rest. pair_of g ∷ rest) (replaced_fields fs i f t (omega arith) is)

-- ---- a field goes in

-- a dict in which a key goes to its gap is in order
pub InOrder-gap : (k key : List ℕ) (d : Doc) (ps : List (List ℕ × Doc)) (i : ℕ) → k ≡ key → with_pair k d ps ≡ insert ps i (k, d) → InOrder (keys_of ps)
    → InOrder (keys_of (insert ps i (key, d)))
InOrder-gap k key d ps i same is order =
    let put = subst (λ (qs : List (List ℕ × Doc)). InOrder (keys_of qs)) is (InOrder-with_pair k d ps order) in
    subst (λ (l : List ℕ). InOrder (keys_of (insert ps i (l, d)))) same put

pub insert_fields : (fs : List Field) (i : ℕ) (f : Field) → map pair_of (insert fs i f) ≡ insert (map pair_of fs) i (pair_of f)
insert_fields [] zero f = refl
insert_fields [] (suc i) f = refl
insert_fields (g ∷ fs) zero f = refl
insert_fields (g ∷ fs) (suc i) f = ap (λ rest. pair_of g ∷ rest) (insert_fields fs i f)

pub ArePairs-insert : (ps : List (List ℕ × Doc)) (i : ℕ) (p : List ℕ × Doc) → ArePairs (pairs_of ps) → ArePairs (pairs_of (p ∷ [])) → ArePairs (pairs_of (insert ps i p))
ArePairs-insert [] zero p all one = one
ArePairs-insert [] (suc i) p all one = one
ArePairs-insert (q ∷ ps) zero p all one = (one.0, one.1, all)
ArePairs-insert (q ∷ ps) (suc i) p all one = (all.0, all.1, ArePairs-insert ps i p all.2 one)
