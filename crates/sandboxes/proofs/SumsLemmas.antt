-- Lists of checksums that are put in order.
use Rattle.std.proofs.Common.{◌≡◌, ◌||◌, Bool, true, false, cond, ℕ, List, [], ◌∷◌, ◌++◌, ◌+◌, ◌<◌, length, take, get_or, append-nil, bytes_eq, refl, sym, ap, ◌∙◌}
use Rattle.std.specs.Cmp.Lexicographic.{nat_list_cmp_total, texts_ties, bytes_decides}
use Rattle.std.specs.List.{dedup, dedup_from, filter}
use Rattle.std.specs.List.Sorted.{IsSorted, IsPermutation}
use Rattle.std.proofs.lemmas.List.Elements.{filter_more}
use Rattle.std.proofs.lemmas.List.Kept.{IsStrictlySortedBy-dedup}
use Rattle.std.proofs.lemmas.List.Sorted.{list_any-IsPermutation}
use Rattle.doc_tree.specs.Text.{text_cmp}
use Rattle.sandboxes.specs.Sums.{Sums, lists, IsRising}

-- a test that is repeated
or_again : (a b : Bool) → (a || b) ≡ (a || (a || b))
or_again true b = refl
or_again false b = refl

-- repeats don't count
lists-dedup_from : (q k : List ℕ) (ks : Sums) → lists (dedup_from bytes_eq k ks) q ≡ (bytes_eq q k || lists ks q)
lists-dedup_from q k [] = refl
lists-dedup_from q k (x ∷ ks) =
    elim (bytes_eq x k) as (λ b. bytes_eq x k ≡ b → lists (cond b (dedup_from bytes_eq k ks) (k ∷ dedup_from bytes_eq x ks)) q ≡ (bytes_eq q k || (bytes_eq q x || lists ks q))) [
      | true ↦ λ is.
          lists-dedup_from q k ks
          ∙ or_again (bytes_eq q k) (lists ks q)
          ∙ ap (λ y. bytes_eq q k || (bytes_eq q y || lists ks q)) (sym ((bytes_decides x k).0 is))
      | false ↦ λ is. ap (λ b. bytes_eq q k || b) (lists-dedup_from q x ks)
    ] refl

lists-dedup : (q : List ℕ) (ks : Sums) → lists (dedup bytes_eq ks) q ≡ lists ks q
lists-dedup q [] = refl
lists-dedup q (k ∷ ks) = lists-dedup_from q k ks

-- a list that is sorted and then rid of repeats lists what it did
pub lists-sorted : (given sorted : Sums) → IsPermutation given sorted → (q : List ℕ) → lists (dedup bytes_eq sorted) q ≡ lists given q
lists-sorted given sorted moved q = lists-dedup q sorted ∙ sym (list_any-IsPermutation (bytes_eq q) given sorted moved)

-- and is in order
pub IsRising-sorted : (sorted : Sums) → IsSorted text_cmp sorted → IsRising (dedup bytes_eq sorted)
IsRising-sorted sorted is = IsStrictlySortedBy-dedup nat_list_cmp_total texts_ties sorted is

-- one more checksum, that passes or doesn't
filtered_more : (test : List ℕ → Bool) (xs : Sums) (i : ℕ) (x : List ℕ) (passes : Bool) → i < length xs → x ≡ get_or xs i x → test x ≡ passes
    → filter test (take (i + 1) xs) ≡ filter test (take i xs) ++ cond passes (x ∷ []) []
filtered_more test xs i x passes within is tells =
    filter_more test xs i x within
    ∙ ap (λ y. filter test (take i xs) ++ cond (test y) (y ∷ []) []) (sym is)
    ∙ ap (λ b. filter test (take i xs) ++ cond b (x ∷ []) []) tells

pub filtered_kept : (test : List ℕ → Bool) (xs done now : Sums) (i : ℕ) (x : List ℕ) → i < length xs → x ≡ get_or xs i x → done ≡ filter test (take i xs)
    → now ≡ done ++ x ∷ [] → test x ≡ true → now ≡ filter test (take (i + 1) xs)
filtered_kept test xs done now i x within is before pushed passes =
    pushed ∙ ap (λ d. d ++ x ∷ []) before ∙ sym (filtered_more test xs i x true within is passes)

pub filtered_dropped : (test : List ℕ → Bool) (xs done now : Sums) (i : ℕ) (x : List ℕ) → i < length xs → x ≡ get_or xs i x → done ≡ filter test (take i xs)
    → now ≡ done → test x ≡ false → now ≡ filter test (take (i + 1) xs)
filtered_dropped test xs done now i x within is before same fails =
    same ∙ before ∙ sym (append-nil (filter test (take i xs))) ∙ sym (filtered_more test xs i x false within is fails)
