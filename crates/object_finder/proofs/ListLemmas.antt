-- Filtered lists: their elements and their order.
use Rattle.std.proofs.Common.{◌≡◌, ℕ, zero, suc, ◌<◌, ◌⊎◌, Bool, true, false, List, [], ◌∷◌, length, get_or, Contains, filter, cond, arith, ap, refl, sym, subst, ◌∙◌, inl, inr, true≢false, Result, Ok, Err, IfOk, nat_cmp}
use Rattle.std.proofs.lemmas.List.Elements.{Contains-append_right}
use Rattle.std.proofs.lemmas.List.Kept.{IsStrictlySortedBy-filter}
use Rattle.std.specs.Cmp.Lexicographic.{slice_cmp}
use Rattle.doc_tree.specs.Valid.{InOrder}

module _ {A : Type 0} where
  here : (y : A) (ys : List A) → Contains (y ∷ ys) y
  here y ys = (0, omega arith, refl)

  there : (y : A) (ys : List A) (x : A) → Contains ys x → Contains (y ∷ ys) x
  there y ys x has = Contains-append_right (y ∷ []) ys x has

  nowhere_at : (x : A) (k : ℕ) → k < 0 → ⊥
  nowhere_at x k below = absurd (omega arith)

  nowhere : (x : A) → Contains [] x → ⊥
  nowhere x has = nowhere_at x has.0 has.1

  tail_at : (y : A) (ys : List A) (x : A) (k : ℕ) → k < length (y ∷ ys) → get_or (y ∷ ys) k x ≡ x → (y ≡ x) ⊎ Contains ys x
  tail_at y ys x zero below is = inl is
  tail_at y ys x (suc k) below is = inr (k, omega arith, is)

  in_tail : (y : A) (ys : List A) (x : A) → Contains (y ∷ ys) x → (y ≡ x) ⊎ Contains ys x
  in_tail y ys x has = tail_at y ys x has.0 has.1 has.2

module _ {A : Type 0} (p : A → Bool) where
  from_by : (y : A) (ys : List A) (x : A) (b : Bool) → p y ≡ b → Contains (cond b (y ∷ filter p ys) (filter p ys)) x → (Contains (filter p ys) x → Contains ys x × (p x ≡ true)) → Contains (y ∷ ys) x × (p x ≡ true)
  from_by y ys x true is has rest = elim (in_tail y (filter p ys) x has) [
    | inl same ↦ (subst (λ z. Contains (y ∷ ys) z) same (here y ys), ap p (sym same) ∙ is)
    | inr more ↦ let left = rest more in (there y ys x left.0, left.1)
  ]
  from_by y ys x false is has rest = let left = rest has in (there y ys x left.0, left.1)

  -- what passes a test is one of those that were tried
  pub filter_from : (xs : List A) (x : A) → Contains (filter p xs) x → Contains xs x × (p x ≡ true)
  filter_from [] x has = absurd (nowhere x has)
  filter_from (y ∷ ys) x has = from_by y ys x (p y) refl has (filter_from ys x)

  to_by : (y : A) (ys : List A) (x : A) (b : Bool) → p x ≡ true → p y ≡ b → (y ≡ x) ⊎ Contains ys x → (Contains ys x → Contains (filter p ys) x) → Contains (cond b (y ∷ filter p ys) (filter p ys)) x
  to_by y ys x true passes is (inl same) rest = subst (λ z. Contains (y ∷ filter p ys) z) same (here y (filter p ys))
  to_by y ys x true passes is (inr more) rest = there y (filter p ys) x (rest more)
  to_by y ys x false passes is (inl same) rest = absurd (true≢false (sym (ap p same ∙ passes) ∙ is))
  to_by y ys x false passes is (inr more) rest = rest more

  pub filter_to : (xs : List A) (x : A) → Contains xs x → p x ≡ true → Contains (filter p xs) x
  filter_to [] x has passes = absurd (nowhere x has)
  filter_to (y ∷ ys) x has passes = to_by y ys x (p y) passes refl (in_tail y ys x has) (λ more. filter_to ys x more passes)

-- texts in order stay so where some go
pub filtered_order : {E : Type 0} (p : List ℕ → Bool) (names : List (List ℕ)) (result : Result (List (List ℕ)) E) → IfOk result (λ found. found ≡ filter p names) → InOrder names → IfOk result InOrder
filtered_order p names (Ok found) is order = subst InOrder (sym is) (IsStrictlySortedBy-filter (slice_cmp nat_cmp) p names order)
filtered_order p names (Err cause) is order = tt
