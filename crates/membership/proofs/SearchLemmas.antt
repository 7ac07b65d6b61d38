-- What a search by halves finds in a list of texts that is in order.
use Rattle.std.proofs.Common.{◌≡◌, ◌||◌, Bool, true, false, ℕ, zero, suc, ◌+◌, ◌<◌, List, [], ◌∷◌, length, slice_index_or, inl, inr, Result, Ok, Err, bytes_eq, refl, sym, ap, ◌∙◌, arith}
use Rattle.std.specs.declared.cmp.Ordering.{Ordering}
use Rattle.std.specs.declared.cmp.Ordering.TheVariants.{Less, Equal, Greater}
use Rattle.std.specs.Ordering.{is_lt, is_eq, ordering_reverse}
use Rattle.std.specs.Cmp.Lexicographic.{nat_list_cmp_total, texts_ties, bytes_decides}
use Rattle.std.specs.FinMap as finite
use Rattle.std.specs.List.{list_any}
use Rattle.std.specs.List.Sorted.{IsSorted, IsSearchInRange, IsBinarySearchResult}
use Rattle.std.specs.Result.{is_ok}
use Rattle.std.proofs.lemmas.Bool.{cases_lt}
use Rattle.std.proofs.lemmas.List.Sorted.{searchable_from_sorted}
use Rattle.std.proofs.lemmas.Map.Keys.{Less-from_sorted}
use Rattle.doc_tree.specs.Text.{text_cmp}
use Rattle.membership.specs.TextSets.{lists, IsRising}

-- texts that tie are the same
pub text_cmp_ties : finite.IsAntisymmetric text_cmp
text_cmp_ties = finite.slice_cmp-IsAntisymmetric finite.nat_cmp-IsAntisymmetric

-- one at a place passes
some_passes : (p : List ℕ → Bool) (xs : List (List ℕ)) (i : ℕ) → i < length xs → ((d : List ℕ) → p (slice_index_or xs i d) ≡ true) → list_any p xs ≡ true
some_passes p [] i within at = absurd (omega arith)
some_passes p (x ∷ xs) zero within at = ap (λ b. b || list_any p xs) (at x)
some_passes p (x ∷ xs) (suc i) within at =
    elim (p x) as (λ b. (b || list_any p xs) ≡ true) [ true ↦ refl | false ↦ some_passes p xs i (omega arith) at ]

-- none passes
none_passes : (p : List ℕ → Bool) (xs : List (List ℕ)) → ((i : ℕ) (d : List ℕ) → i < length xs → p (slice_index_or xs i d) ≡ false) → list_any p xs ≡ false
none_passes p [] none = refl
none_passes p (x ∷ xs) none =
    ap (λ b. b || list_any p xs) (none zero x (omega arith)) ∙ none_passes p xs (λ i d within. none (suc i) d (omega arith))

-- a list in order is sorted
sorted : (xs : List (List ℕ)) → IsRising xs → IsSorted text_cmp xs
sorted xs rising k d from within =
    ap is_lt (nat_list_cmp_total.antisymm (slice_index_or xs (k + 1) d) (slice_index_or xs k d)
    ∙ ap ordering_reverse (Less-from_sorted text_cmp xs k (k + 1) d rising (omega arith) within))

-- what isn't the same as q
other : (q y : List ℕ) (r : Ordering) → is_eq r ≡ false → text_cmp y q ≡ r → bytes_eq q y ≡ false
other q y r not_equal is =
    texts_ties q y ∙ ap is_eq (nat_list_cmp_total.antisymm q y ∙ ap ordering_reverse is) ∙ reversed r not_equal where
      reversed : (r : Ordering) → is_eq r ≡ false → is_eq (ordering_reverse r) ≡ false
      reversed Less h = refl
      reversed Equal h = h
      reversed Greater h = refl

-- a search answers `Ok` where the list has the text
pub searched : (xs : List (List ℕ)) (q : List ℕ) (r : Result ℕ ℕ) → IsRising xs → IsSearchInRange r (length xs) → IsBinarySearchResult (λ y. text_cmp y q) xs r → is_ok r ≡ lists xs q
searched xs q (Ok i) rising within found =
    sym (some_passes (bytes_eq q) xs i within (λ d.
    (bytes_decides q (slice_index_or xs i d)).1 (sym (text_cmp_ties (slice_index_or xs i d) q (found d)))))
searched xs q (Err i) rising within found =
    let parts = found (searchable_from_sorted nat_list_cmp_total (λ x. x) xs q (sorted xs rising)) in
    sym (none_passes (bytes_eq q) xs (λ k d inside.
    elim (cases_lt k i) [
      | inl before ↦ other q (slice_index_or xs k d) Less refl (parts.0 k d (omega arith) before)
      | inr from ↦ other q (slice_index_or xs k d) Greater refl (parts.1 k d from inside)
    ]))
