-- Pairs in the order of their keys, put in one by one; and what stands beside those that are put in.
use Rattle.std.proofs.Common.{◌≡◌, ℕ, Bool, true, false, cond, not, List, [], ◌∷◌, ◌++◌, Option, Some, Less, Greater, nat_cmp, bytes_eq, append_assoc, true≢false, refl, sym, ap, subst, ◌∙◌}
use Rattle.std.proofs.lemmas.List.{map-append}
use Rattle.std.proofs.lemmas.Slice.Eq.{bytes_eq-Decides}
use Rattle.std.specs.Cmp.Lexicographic.{nat_list_cmp_total, slice_cmp}
use Rattle.std.specs.List.{AllByRecursion}
use Rattle.std.specs.List.Sorted.{IsStrictlySortedBy}
use Rattle.std.specs.Map.{keys_of}
use Rattle.std.specs.Ordering.{match_ordering, ordering_reverse}
use Rattle.doc_tree.specs.Doc.{Doc, pairs_of, Pairs, no_pairs, then_pair}
use Rattle.doc_tree.specs.Part.{pair_at, with_pair}
use Rattle.doc_tree.specs.Valid.{ArePairs, InOrder, IsDoc}
use Rattle.cookbook_meta.specs.Stored.{beside, with_pairs}
use Rattle.cookbook_meta.proofs.KeyLemmas.{InOrder-first}
use Rattle.run_lists.proofs.EachLemmas.{same_some}

-- the last of all keys goes behind the others
above : (key : List ℕ) (d : Doc) (p : List ℕ × Doc) (ps after : List (List ℕ × Doc)) → slice_cmp nat_cmp key p.0 ≡ Greater → match_ordering (slice_cmp nat_cmp key p.0) ((key, d) ∷ p ∷ ps) ((p.0, d) ∷ ps) (p ∷ after) ≡ p ∷ after
above key d p ps after is = ap (λ o. match_ordering o ((key, d) ∷ p ∷ ps) ((p.0, d) ∷ ps) (p ∷ after)) is

all_last : (first key : List ℕ) (keys : List (List ℕ)) → AllByRecursion (λ y. slice_cmp nat_cmp first y ≡ Less) (keys ++ key ∷ []) → slice_cmp nat_cmp first key ≡ Less
all_last first key [] all = all.0
all_last first key (k ∷ keys) all = all_last first key keys all.1

put_last : (made : List (List ℕ × Doc)) (key : List ℕ) (d : Doc) → InOrder (keys_of made ++ key ∷ []) → with_pair key d made ≡ made ++ (key, d) ∷ []
unfolding IsStrictlySortedBy
put_last [] key d order = refl
put_last (p ∷ made) key d order =
    let less : slice_cmp nat_cmp p.0 key ≡ Less = all_last p.0 key (keys_of made) order.0 in
    let greater : slice_cmp nat_cmp key p.0 ≡ Greater = nat_list_cmp_total.antisymm key p.0 ∙ ap ordering_reverse less in
    above key d p made (with_pair key d made) greater ∙ ap (λ (ps : List (List ℕ × Doc)). p ∷ ps) (put_last made key d order.1)

-- pairs in order, put behind others
put_all : (ps made : List (List ℕ × Doc)) → InOrder (keys_of made ++ keys_of ps) → with_pairs ps made ≡ made ++ ps
put_all [] made order = sym (append_none made)
  where
    append_none : (zs : List (List ℕ × Doc)) → zs ++ [] ≡ zs
    append_none [] = refl
    append_none (z ∷ zs) = ap (λ (rest : List (List ℕ × Doc)). z ∷ rest) (append_none zs)
put_all (p ∷ ps) made order =
    let here : with_pair p.0 p.1 made ≡ made ++ p ∷ [] = put_last made p.0 p.1 (InOrder-first (keys_of made) p.0 (keys_of ps) order) in
    let keys : keys_of made ++ p.0 ∷ keys_of ps ≡ keys_of (made ++ p ∷ []) ++ keys_of ps =
    sym (append_assoc (keys_of made) (p.0 ∷ []) (keys_of ps)) ∙ ap (λ (ks : List (List ℕ)). ks ++ keys_of ps) (sym (map-append (λ (q : List ℕ × Doc). q.0) made (p ∷ []))) in
    ap (with_pairs ps) here ∙ put_all ps (made ++ p ∷ []) (subst InOrder keys order) ∙ append_assoc made (p ∷ []) ps

-- pairs in order, put in one by one
pub put_in_order : (ps : List (List ℕ × Doc)) → InOrder (keys_of ps) → with_pairs ps [] ≡ ps
put_in_order ps order = put_all ps [] order

-- where the key isn't listed, beside the listed stands what stood
pub pair_at-beside : (listed : List ℕ → Bool) (key : List ℕ) (ps : List (List ℕ × Doc)) → listed key ≡ false → pair_at key (pairs_of (beside listed ps)) ≡ pair_at key (pairs_of ps)
pair_at-beside listed key [] own = refl
pair_at-beside listed key (p ∷ ps) own =
    elim (listed p.0) as (λ b. listed p.0 ≡ b → pair_at key (pairs_of (cond (not b) (p ∷ beside listed ps) (beside listed ps))) ≡ cond (bytes_eq p.0 key) (Some p.1) (pair_at key (pairs_of ps))) [
      | true ↦ λ is. pair_at-beside listed key ps own ∙ sym (ap (λ b. cond b (Some p.1) (pair_at key (pairs_of ps))) (apart (bytes_eq p.0 key) refl is))
      | false ↦ λ is. ap (cond (bytes_eq p.0 key) (Some p.1)) (pair_at-beside listed key ps own)
    ] refl
  where
    apart : (b : Bool) → bytes_eq p.0 key ≡ b → listed p.0 ≡ true → bytes_eq p.0 key ≡ false
    apart true same is = absurd (true≢false (sym is ∙ subst (λ (k : List ℕ). listed k ≡ false) (sym ((bytes_eq-Decides p.0 key).0 same)) own))
    apart false same is = same

known_by : (b : Bool) (e d : Doc) (later : Option Doc) → IsDoc e → (later ≡ Some d → IsDoc d) → cond b (Some e) later ≡ Some d → IsDoc d
known_by true e d later here there is = subst IsDoc (same_some e d is) here
known_by false e d later here there is = there is

-- what a known Dict has at a key is known
pub known_at : (key : List ℕ) (ps : Pairs) (d : Doc) → ArePairs ps → pair_at key ps ≡ Some d → IsDoc d
known_at key no_pairs d known is = cc
known_at key (then_pair k e ps) d known is = known_by (bytes_eq k key) e d (pair_at key ps) known.1 (known_at key ps d known.2) is
