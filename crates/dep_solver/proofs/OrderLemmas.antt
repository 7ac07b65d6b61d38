-- Lists in order, told by each element and the one after it.
use Rattle.std.proofs.Common.{◌≡◌, ℕ, zero, suc, ◌+◌, ◌-◌, ◌<◌, ◌≤◌, ◌⊎◌, inl, inr, Bool, true, false, refl, is_ge, true≢false, List, [], ◌∷◌, length, map, get_or, arith, ap, sym, ◌∙◌}
use Rattle.std.proofs.lemmas.List.{get_or-map, get_or_default, length-map}
use Rattle.std.proofs.lemmas.Map.Keys.{sorted_from_all_adjacent, Less-from_sorted}
use Rattle.std.specs.Cmp.{IsTotalOrder}
use Rattle.std.specs.declared.cmp.Ordering.{Ordering}
use Rattle.std.specs.declared.cmp.Ordering.TheVariants.{Less, Equal, Greater}
use Rattle.std.specs.List.Sorted.{IsStrictlySortedBy}

pub three : (i j : ℕ) → (i < j) ⊎ (i ≡ j) ⊎ (j < i)
three zero zero = inr (inl refl)
three zero (suc j) = inl (omega arith)
three (suc i) zero = inr (inr (omega arith))
three (suc i) (suc j) = elim (three i j) [
  | inl h ↦ inl (omega arith)
  | inr h ↦ elim h [ inl e ↦ inr (inl (ap suc e)) | inr g ↦ inr (inr (omega arith)) ]
]

le_cases : (a b : ℕ) → a ≤ b → (a ≡ b) ⊎ (a < b)
le_cases a b h = elim (three a b) [
  | inl l ↦ inr l
  | inr r ↦ elim r [ inl e ↦ inl e | inr g ↦ absurd (omega arith) ]
]

module _ {A K : Type 0} (f : A → K) (R : K → K → Ordering) where
  -- each of the first n is below the one after it
  abbrev pub RisesTo : List A → ℕ → Type 0
  RisesTo xs n = (k : ℕ) (d : A) → k + 1 < n → R (f (get_or xs k d)) (f (get_or xs (k + 1) d)) ≡ Less

  at : (xs : List A) (i : ℕ) (d : A) → i < length xs → get_or (map f xs) i (f d) ≡ f (get_or xs i d)
  at xs i d h = get_or-map f xs i d (f d) h

  pub sorted_from_rises : IsTotalOrder R → (xs : List A) (n : ℕ) → length xs ≤ n → RisesTo xs n → IsStrictlySortedBy R (map f xs)
  unfolding IsStrictlySortedBy
  sorted_from_rises o [] n h rises = tt
  sorted_from_rises o (x ∷ xs) n h rises =
      sorted_from_all_adjacent o (map f (x ∷ xs)) (f x)
      (λ k lt. let within : k + 1 < length (x ∷ xs) = omega (arith, length-map (x ∷ xs) f) in
      let before : k < length (x ∷ xs) = omega arith in
      let low : k + 1 < n = omega arith in
      ap (λ a. R a (get_or (map f (x ∷ xs)) (k + 1) (f x))) (at (x ∷ xs) k x before)
      ∙ ap (λ b. R (f (get_or (x ∷ xs) k x)) b) (at (x ∷ xs) (k + 1) x within)
      ∙ rises k x low)

  pub less_from_sorted : (xs : List A) (i : ℕ) (d : A) → i + 1 < length xs → IsStrictlySortedBy R (map f xs) → R (f (get_or xs i d)) (f (get_or xs (i + 1) d)) ≡ Less
  less_from_sorted xs i d h sorted =
      let before : i < length xs = omega arith in
      let lt : i < i + 1 = omega arith in
      let within : i + 1 < length (map f xs) = omega (arith, length-map xs f) in
      sym (ap (λ a. R a (f (get_or xs (i + 1) d))) (at xs i d before))
      ∙ sym (ap (λ b. R (get_or (map f xs) i (f d)) b) (at xs (i + 1) d h))
      ∙ Less-from_sorted R (map f xs) i (i + 1) (f d) sorted lt within

-- what `>=` says
pub less_from_ge : (o : Ordering) (b : Bool) → b ≡ is_ge o → b ≡ false → o ≡ Less
less_from_ge Less b e h = refl
less_from_ge Equal b e h = absurd (true≢false (sym e ∙ h))
less_from_ge Greater b e h = absurd (true≢false (sym e ∙ h))

pub not_less_from_ge : (o : Ordering) (b : Bool) → b ≡ is_ge o → b ≡ true → o ≡ Less → ⊥
not_less_from_ge o b e h l = absurd (true≢false (sym h ∙ e ∙ ap is_ge l))

module _ {A K : Type 0} (f : A → K) (R : K → K → Ordering) where
  -- one more element that is above the one before it
  pub rises_more : (xs : List A) (i : ℕ) (x y : A) → 1 ≤ i → i < length xs → R (f (get_or xs (i - 1) x)) (f (get_or xs i y)) ≡ Less
      → RisesTo f R xs i → RisesTo f R xs (i + 1)
  rises_more xs i x y low within less rises k d h =
      elim (le_cases (k + 1) i (omega arith)) [
        | inl e ↦
            let at : i - 1 ≡ k = omega arith in
            let before : i - 1 < length xs = omega arith in
            let first : get_or xs (i - 1) x ≡ get_or xs k d = get_or_default xs (i - 1) x d before ∙ ap (λ n. get_or xs n d) at in
            let second : get_or xs i y ≡ get_or xs (k + 1) d = get_or_default xs i y d within ∙ ap (λ n. get_or xs n d) (sym e) in
            sym (ap (λ z. R (f z) (f (get_or xs (k + 1) d))) first) ∙ sym (ap (λ z. R (f (get_or xs (i - 1) x)) (f z)) second) ∙ less
        | inr lt ↦ rises k d lt
      ]

  pub not_sorted : (xs : List A) (i : ℕ) (x y : A) → 1 ≤ i → i < length xs → (R (f (get_or xs (i - 1) x)) (f (get_or xs i y)) ≡ Less → ⊥) → IsStrictlySortedBy R (map f xs) → ⊥
  not_sorted xs i x y low within not sorted =
      let up : i - 1 + 1 ≡ i = omega arith in
      let bound : i - 1 + 1 < length xs = omega arith in
      let less = less_from_sorted f R xs (i - 1) x bound sorted in
      let second : get_or xs i y ≡ get_or xs (i - 1 + 1) x = get_or_default xs i y x within ∙ ap (λ n. get_or xs n x) (sym up) in
      not (ap (λ z. R (f (get_or xs (i - 1) x)) (f z)) second ∙ less)
