-- Loops that test each element of a list, and stop at the first that fails.
use Rattle.std.proofs.Common.{◌≡◌, ℕ, ◌+◌, ◌<◌, ◌≤◌, List, [], ◌∷◌, length, take, get_or, Contains, arith, ap, sym, refl, subst, ◌∙◌, inl, inr, take_all, slice_get, Some}
use Rattle.std.proofs.lemmas.List.{take_more}
use Rattle.std.proofs.lemmas.List.Elements.{Contains-push_cases}
use Rattle.std.proofs.lemmas.Option.{same_Some, slice_get_read, slice_get_within}
use Rattle.dep_solver.proofs.ListLemmas.{nowhere}
use Rattle.dep_solver.proofs.OrderLemmas.{three}

-- P holds of each of the first i elements
abbrev pub EachBefore : {A : Type 0} → (A → Type 0) → List A → ℕ → Type 0
EachBefore {A} P xs i = (x : A) → Contains (take i xs) x → P x

module _ {A : Type 0} (P : A → Type 0) where
  pub each_none : (xs : List A) → EachBefore P xs 0
  each_none xs x h = absurd (nowhere x (subst (λ zs. Contains zs x) (none xs) h))
    where
      none : (xs : List A) → take 0 xs ≡ []
      none [] = refl
      none (x ∷ xs) = refl

  pub each_more : (xs : List A) (i : ℕ) (x : A) → i < length xs → x ≡ get_or xs i x → EachBefore P xs i → P x → EachBefore P xs (i + 1)
  each_more xs i x within is before now y h = elim (Contains-push_cases (take i xs) (get_or xs i x) y (subst (λ zs. Contains zs y) (take_more xs i x within) h)) [
    | inl k ↦ before y k
    | inr e ↦ subst P (is ∙ e) now
  ]

  pub each_all : (xs : List A) (i : ℕ) → length xs ≤ i → EachBefore P xs i → (x : A) → Contains xs x → P x
  each_all xs i past before x h = before x (subst (λ zs. Contains zs x) (sym (take_all i xs past)) h)

pub read_inside : {A : Type 0} (xs : List A) (i : ℕ) (x : A) → i < length xs → x ≡ get_or xs i x → Contains xs x
read_inside xs i x within is = (i, within, sym is)

-- P holds of none of the first i elements
abbrev pub NoneBefore : {A : Type 0} → (ℕ → A → Type 0) → List A → ℕ → Type 0
NoneBefore {A} P xs i = (k : ℕ) (x : A) → k < i → slice_get xs k ≡ Some x → P k x → ⊥

module _ {A : Type 0} (P : ℕ → A → Type 0) (xs : List A) where
  pub none_yet : NoneBefore P xs 0
  none_yet k x h e p = absurd (omega arith)

  pub none_more : (i : ℕ) (x : A) → i < length xs → x ≡ get_or xs i x → NoneBefore P xs i → (P i x → ⊥) → NoneBefore P xs (i + 1)
  none_more i x within is before not k y h e p = elim (three k i) [
    | inl below ↦ before k y below e p
    | inr r ↦ elim r [
      | inl same ↦
          let one : y ≡ x = same_Some y x (sym e ∙ ap (slice_get xs) same ∙ slice_get_read xs (length xs) i x refl within is) in
          not (subst (λ n. P n x) same (subst (P k) one p))
      | inr g ↦ absurd (omega arith)
    ]
  ]

  pub none_all : (i : ℕ) → length xs ≤ i → NoneBefore P xs i → (k : ℕ) (x : A) → slice_get xs k ≡ Some x → P k x → ⊥
  none_all i past before k x e p = before k x (omega (arith, slice_get_within xs k x e)) e p
