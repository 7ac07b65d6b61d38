-- Elements of lists, by `Contains` and by their places.
use Rattle.std.proofs.Common.{◌≡◌, ℕ, zero, suc, ◌<◌, ◌⊎◌, Bool, true, false, List, [], ◌∷◌, ◌++◌, length, map, get_or, slice_get, Some, None, Contains, arith, ap, refl, sym, subst, ◌∙◌, inl, inr}
use Rattle.std.proofs.lemmas.List.Elements.{Contains-append_right}
use Rattle.std.proofs.lemmas.Map.Keys.{apart_from_distinct}
use Rattle.std.proofs.lemmas.Option.{none-some, same_Some, slice_get_within, get_or_from_slice_get, slice_get-get_or}
use Rattle.std.specs.Cmp.{IsEquivalence}
use Rattle.std.specs.List.{IsDistinct}

module _ {A : Type 0} where
  pub here : (y : A) (ys : List A) → Contains (y ∷ ys) y
  here y ys = (0, omega arith, refl)

  pub there : (y : A) (ys : List A) (x : A) → Contains ys x → Contains (y ∷ ys) x
  there y ys x h = Contains-append_right (y ∷ []) ys x h

  nowhere_at : (x : A) (k : ℕ) → k < 0 → ⊥
  nowhere_at x k h = absurd (omega arith)

  pub nowhere : (x : A) → Contains [] x → ⊥
  nowhere x h = nowhere_at x h.0 h.1

  tail_at : (y : A) (ys : List A) (x : A) (k : ℕ) → k < length (y ∷ ys) → get_or (y ∷ ys) k x ≡ x → (y ≡ x) ⊎ Contains ys x
  tail_at y ys x zero h e = inl e
  tail_at y ys x (suc k) h e = inr (k, omega arith, e)

  -- an element is the first one, or is among the others
  pub in_tail : (y : A) (ys : List A) (x : A) → Contains (y ∷ ys) x → (y ≡ x) ⊎ Contains ys x
  in_tail y ys x h = tail_at y ys x h.0 h.1 h.2

  pub contains_at : (xs : List A) (k : ℕ) (x : A) → slice_get xs k ≡ Some x → Contains xs x
  contains_at xs k x e = (k, slice_get_within xs k x e, get_or_from_slice_get xs k x x e)

  pub at_contains : (xs : List A) (x : A) → Contains xs x → (k : ℕ) × (slice_get xs k ≡ Some x)
  at_contains xs x h = (h.0, slice_get-get_or xs h.0 x h.1 ∙ ap Some h.2)

  -- an element stands there with others behind
  pub slice_get_left : (xs ys : List A) (k : ℕ) (x : A) → slice_get xs k ≡ Some x → slice_get (xs ++ ys) k ≡ Some x
  slice_get_left [] ys k x e = absurd (none-some x e)
  slice_get_left (y ∷ xs) ys zero x e = e
  slice_get_left (y ∷ xs) ys (suc k) x e = slice_get_left xs ys k x e

  -- what stands right behind a list is the first of the rest
  pub slice_get_end : (xs rest : List A) (x : A) → slice_get (xs ++ rest) (length xs) ≡ Some x → (more : List A) × (rest ≡ x ∷ more)
  slice_get_end [] [] x e = absurd (none-some x e)
  slice_get_end [] (r ∷ rest) x e = (rest, ap (λ z. z ∷ rest) (same_Some r x e))
  slice_get_end (y ∷ xs) rest x e = slice_get_end xs rest x e

  pub slice_get_at_end : (xs : List A) (x : A) (rest : List A) → slice_get (xs ++ x ∷ rest) (length xs) ≡ Some x
  slice_get_at_end [] x rest = refl
  slice_get_at_end (y ∷ xs) x rest = slice_get_at_end xs x rest

  pub nothing_behind : (xs rest : List A) → slice_get (xs ++ rest) (length xs) ≡ None → rest ≡ []
  nothing_behind [] [] e = refl
  nothing_behind [] (r ∷ rest) e = absurd (none-some r (sym e))
  nothing_behind (y ∷ xs) rest e = nothing_behind xs rest e

  -- a list that is split at its end, or before it
  pub split_cases : (front : List A) (p : A) (alike : List A) (q : A) (rest : List A) → front ++ p ∷ [] ≡ alike ++ q ∷ rest
      → ((front ≡ alike) × (p ≡ q)) ⊎ ((less : List A) × (front ≡ alike ++ q ∷ less))
  split_cases [] p [] q rest e = inl (refl, same_head p q [] rest e)
    where
      same_head : (p q : A) (xs ys : List A) → p ∷ xs ≡ q ∷ ys → p ≡ q
      same_head p q xs ys e = cc
  split_cases [] p (a ∷ alike) q rest e = absurd (short alike q rest (cc))
    where
      short : (alike : List A) (q : A) (rest : List A) → [] ≡ alike ++ q ∷ rest → ⊥
      short [] q rest e = cc
      short (a ∷ alike) q rest e = cc
  split_cases (f ∷ front) p [] q rest e =
      let first : f ≡ q = cc in inr (front, ap (λ z. z ∷ front) first)
  split_cases (f ∷ front) p (a ∷ alike) q rest e =
      let first : f ≡ a = cc in
      let others : front ++ p ∷ [] ≡ alike ++ q ∷ rest = cc in
      elim (split_cases front p alike q rest others) [
        | inl h ↦ inl ((λ i. first i ∷ h.0 i), h.1)
        | inr h ↦ inr (h.0, λ i. first i ∷ h.1 i)
      ]

  distinct_order : (same : A → A → Bool) → IsEquivalence same → (xs : List A) (i j : ℕ) (x : A) → IsDistinct same xs → i < j → slice_get xs i ≡ Some x → slice_get xs j ≡ Some x → ⊥
  distinct_order same laws xs i j x distinct h a b =
      let within : j < length xs = slice_get_within xs j x b in
      let apart : same (get_or xs i x) (get_or xs j x) ≡ false = apart_from_distinct same xs i j x distinct h within in
      let one : same x x ≡ false = subst (λ z. same x z ≡ false) (get_or_from_slice_get xs j x x b) (subst (λ z. same z (get_or xs j x) ≡ false) (get_or_from_slice_get xs i x x a) apart) in
      let two : same x x ≡ true = laws.refl x in
      cc (one, two)

  -- distinct elements stand at one place each
  pub one_place : (same : A → A → Bool) → IsEquivalence same → (xs : List A) (i j : ℕ) (x : A) → IsDistinct same xs → slice_get xs i ≡ Some x → slice_get xs j ≡ Some x → i ≡ j
  one_place same laws xs i j x distinct a b =
      let not_below : i < j → ⊥ = λ (h : i < j). distinct_order same laws xs i j x distinct h a b in
      let not_above : j < i → ⊥ = λ (h : j < i). distinct_order same laws xs j i x distinct h b a in
      omega (arith, not_below, not_above)

module _ {A B : Type 0} (f : A → B) where
  pub contains_map : (xs : List A) (x : A) → Contains xs x → Contains (map f xs) (f x)
  contains_map [] x h = absurd (nowhere x h)
  contains_map (y ∷ xs) x h = elim (in_tail y xs x h) [
    | inl e ↦ subst (λ z. Contains (map f (y ∷ xs)) (f z)) e (here (f y) (map f xs))
    | inr t ↦ there (f y) (map f xs) (f x) (contains_map xs x t)
  ]

  pub map_contains : (xs : List A) (y : B) → Contains (map f xs) y → (x : A) × Contains xs x × (f x ≡ y)
  map_contains [] y h = absurd (nowhere y h)
  map_contains (x ∷ xs) y h = elim (in_tail (f x) (map f xs) y h) [
    | inl e ↦ (x, here x xs, e)
    | inr t ↦ let more = map_contains xs y t in (more.0, there x xs more.0 more.1, more.2)
  ]
