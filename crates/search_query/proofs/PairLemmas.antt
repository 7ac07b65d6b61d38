-- Lists of pairs that are put in order.
use Rattle.std.proofs.Common.{◌≡◌, ◌||◌, Bool, true, false, cond, ℕ, List, [], ◌∷◌, refl, sym, ap, ap₂, ◌∙◌}
use Rattle.std.specs.declared.cmp.Ordering.{Ordering}
use Rattle.std.specs.declared.cmp.Ordering.TheVariants.{Less, Equal, Greater}
use Rattle.std.specs.Ordering.{nat_cmp, ordering_then, is_eq}
use Rattle.std.specs.Cmp.Lexicographic.{slice_cmp, texts_ties, same_text}
use Rattle.std.specs.List.{dedup, dedup_from}
use Rattle.std.specs.List.Sorted.{IsSorted, IsPermutation}
use Rattle.std.proofs.lemmas.List.Kept.{IsStrictlySortedBy-dedup}
use Rattle.std.proofs.lemmas.List.Sorted.{list_any-IsPermutation}
use Rattle.search_query.specs.Pair.{Pair, pair, pair_cmp, pair_cmp_total, same_pair, lists, IsRising}

-- texts, and pairs, that tie are the same
texts_same : (xs ys : List ℕ) → is_eq (slice_cmp nat_cmp xs ys) ≡ true → xs ≡ ys
texts_same xs ys is = same_text xs ys (sym (texts_ties xs ys ∙ is))

pair_same_on : (o : Ordering) (x y : Pair) → slice_cmp nat_cmp x.field y.field ≡ o → is_eq (ordering_then o (slice_cmp nat_cmp x.value y.value)) ≡ true → x ≡ y
pair_same_on Less x y first is = cc
pair_same_on Equal x y first is = ap₂ pair (texts_same x.field y.field (ap is_eq first)) (texts_same x.value y.value is)
pair_same_on Greater x y first is = cc

pub pair_same : (x y : Pair) → same_pair x y ≡ true → x ≡ y
pair_same x y is = pair_same_on (slice_cmp nat_cmp x.field y.field) x y refl is

-- a test that is repeated
or_again : (a b : Bool) → (a || b) ≡ (a || (a || b))
or_again true b = refl
or_again false b = refl

-- repeats don't count
lists-dedup_from : (q k : Pair) (ks : List Pair) → lists (dedup_from same_pair k ks) q ≡ (same_pair q k || lists ks q)
lists-dedup_from q k [] = refl
lists-dedup_from q k (x ∷ ks) =
    elim (same_pair x k) as (λ b. same_pair x k ≡ b → lists (cond b (dedup_from same_pair k ks) (k ∷ dedup_from same_pair x ks)) q ≡ (same_pair q k || (same_pair q x || lists ks q))) [
      | true ↦ λ is.
          lists-dedup_from q k ks
          ∙ or_again (same_pair q k) (lists ks q)
          ∙ ap (λ y. same_pair q k || (same_pair q y || lists ks q)) (sym (pair_same x k is))
      | false ↦ λ is. ap (λ b. same_pair q k || b) (lists-dedup_from q x ks)
    ] refl

lists-dedup : (q : Pair) (ks : List Pair) → lists (dedup same_pair ks) q ≡ lists ks q
lists-dedup q [] = refl
lists-dedup q (k ∷ ks) = lists-dedup_from q k ks

-- a list that is sorted and then rid of repeats lists what it did
pub lists-sorted : (given sorted : List Pair) → IsPermutation given sorted → (q : Pair) → lists (dedup same_pair sorted) q ≡ lists given q
lists-sorted given sorted moved q = lists-dedup q sorted ∙ sym (list_any-IsPermutation (same_pair q) given sorted moved)

-- and is in order
pub IsRising-sorted : (sorted : List Pair) → IsSorted pair_cmp sorted → IsRising (dedup same_pair sorted)
IsRising-sorted sorted is = IsStrictlySortedBy-dedup pair_cmp_total (λ x y. refl) sorted is
