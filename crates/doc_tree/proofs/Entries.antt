-- What a key's change leaves of a dict.
use Rattle.std.proofs.Common.{◌≡◌, ℕ, List, [], ◌∷◌, Ordering, Less, Equal, Greater, nat_cmp, IsUtf8, refl, ap, ◌∙◌}
use Rattle.std.proofs.lemmas.Cmp.{nat_list_cmp_total}
use Rattle.std.specs.Cmp.Lexicographic.{slice_cmp}
use Rattle.std.specs.List.{AllByRecursion}
use Rattle.std.specs.List.Sorted.{IsStrictlySortedBy}
use Rattle.std.specs.Map.{keys_of}
use Rattle.std.specs.Ordering.{match_ordering, ordering_reverse}
use Rattle.doc_tree.specs.Doc.{Doc, pairs_of}
use Rattle.doc_tree.specs.Part.{with_pair}
use Rattle.doc_tree.specs.Valid.{IsDoc, ArePairs, InOrder}

-- ---- each key stays UTF-8, and each document valid

ArePairs-at : (o : Ordering) (k : List ℕ) (d : Doc) (p : List ℕ × Doc) (ps after : List (List ℕ × Doc)) → ArePairs (pairs_of (p ∷ ps)) → IsUtf8 k → IsDoc d
    → ArePairs (pairs_of after) → ArePairs (pairs_of (match_ordering o ((k, d) ∷ p ∷ ps) ((p.0, d) ∷ ps) (p ∷ after)))
ArePairs-at Less k d p ps after all key one later = (key, one, all)
ArePairs-at Equal k d p ps after all key one later = (all.0, one, all.2)
ArePairs-at Greater k d p ps after all key one later = (all.0, all.1, later)

pub ArePairs-with_pair : (k : List ℕ) (d : Doc) (ps : List (List ℕ × Doc)) → ArePairs (pairs_of ps) → IsUtf8 k → IsDoc d → ArePairs (pairs_of (with_pair k d ps))
ArePairs-with_pair k d [] all key one = (key, one, tt)
ArePairs-with_pair k d (p ∷ ps) all key one = ArePairs-at (slice_cmp nat_cmp k p.0) k d p ps (with_pair k d ps) all key one (ArePairs-with_pair k d ps all.2 key one)

-- ---- the keys stay in order

-- what holds of each key and of the new one holds of each key after
all_keys-at : (P : List ℕ → Type 0) (o : Ordering) (k : List ℕ) (d : Doc) (p : List ℕ × Doc) (ps after : List (List ℕ × Doc)) → P k → P p.0 → AllByRecursion P (keys_of ps)
    → AllByRecursion P (keys_of after) → AllByRecursion P (keys_of (match_ordering o ((k, d) ∷ p ∷ ps) ((p.0, d) ∷ ps) (p ∷ after)))
all_keys-at P Less k d p ps after new first rest later = (new, (first, rest))
all_keys-at P Equal k d p ps after new first rest later = (first, rest)
all_keys-at P Greater k d p ps after new first rest later = (first, later)

all_keys-with_pair : (P : List ℕ → Type 0) (k : List ℕ) (d : Doc) (ps : List (List ℕ × Doc)) → P k → AllByRecursion P (keys_of ps) → AllByRecursion P (keys_of (with_pair k d ps))
all_keys-with_pair P k d [] new all = (new, tt)
all_keys-with_pair P k d (p ∷ ps) new all = all_keys-at P (slice_cmp nat_cmp k p.0) k d p ps (with_pair k d ps) new all.0 all.1 (all_keys-with_pair P k d ps new all.1)

-- a key below another is below all that are above that
below_all : (k l : List ℕ) (ks : List (List ℕ)) → slice_cmp nat_cmp k l ≡ Less → AllByRecursion (λ y. slice_cmp nat_cmp l y ≡ Less) ks → AllByRecursion (λ y. slice_cmp nat_cmp k y ≡ Less) ks
below_all k l [] h all = tt
below_all k l (y ∷ ks) h all = (nat_list_cmp_total.trans k l y h all.0, below_all k l ks h all.1)

InOrder-at : (o : Ordering) (k : List ℕ) (d : Doc) (p : List ℕ × Doc) (ps : List (List ℕ × Doc)) → slice_cmp nat_cmp k p.0 ≡ o → InOrder (keys_of (p ∷ ps)) → InOrder (keys_of (with_pair k d ps))
    → InOrder (keys_of (match_ordering o ((k, d) ∷ p ∷ ps) ((p.0, d) ∷ ps) (p ∷ with_pair k d ps)))
unfolding IsStrictlySortedBy
InOrder-at Less k d p ps is all later = ((is, below_all k p.0 (keys_of ps) is all.0), all)
InOrder-at Equal k d p ps is all later = all
InOrder-at Greater k d p ps is all later =
    let above : slice_cmp nat_cmp p.0 k ≡ Less = nat_list_cmp_total.antisymm p.0 k ∙ ap ordering_reverse is in
    (all_keys-with_pair (λ y. slice_cmp nat_cmp p.0 y ≡ Less) k d ps above all.0, later)

pub InOrder-with_pair : (k : List ℕ) (d : Doc) (ps : List (List ℕ × Doc)) → InOrder (keys_of ps) → InOrder (keys_of (with_pair k d ps))
unfolding IsStrictlySortedBy
InOrder-with_pair k d [] all = (tt, tt)
InOrder-with_pair k d (p ∷ ps) all = InOrder-at _ k d p ps refl all (InOrder-with_pair k d ps all.1)

pub InOrder-none : InOrder []
unfolding IsStrictlySortedBy
InOrder-none = tt
