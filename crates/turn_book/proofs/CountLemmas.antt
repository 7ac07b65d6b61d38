-- Sums over the views after a change of one of them.
use Rattle.std.proofs.Common.{◌≡◌, ◌≢◌, ℕ, zero, suc, ◌+◌, ◌<◌, ◌≤◌, List, [], ◌∷◌, ◌++◌, set, refl, sym, ap, arith}
use Rattle.std.proofs.lemmas.Bool.Decides.{nat_tests}
use mathlib.Core.Option.{some, some-injective, some-ne-none}
use lib.ListN.{get_elem?}
use Rattle.turn_book.specs.Counts.{total, same, times, below}

pub same_here : (x : ℕ) → same x x ≡ 1
same_here x = grind (arith, nat_tests)

pub same_most : (x y : ℕ) → same x y ≤ 1
same_most x y = grind (arith, nat_tests)

pub below_most : (k n : ℕ) → below k n ≤ 1
below_most k n = grind (arith, nat_tests)

pub below_no : (k n : ℕ) → n ≤ k → below k n ≡ 0
below_no k n h = grind (arith, nat_tests)

pub below_yes : (k n : ℕ) → 0 < below k n → k < n
below_yes k n h = grind (arith, nat_tests)

pub below_suc : (k n : ℕ) → below k (n + 1) ≡ below k n + same k n
below_suc k n = grind (arith, nat_tests)

pub times_append : (k : ℕ) (xs ys : List ℕ) → times k (xs ++ ys) ≡ times k xs + times k ys
times_append k [] ys = omega arith
times_append k (x ∷ xs) ys = omega (arith, times_append k xs ys)

module _ {V : Type 0} where
  pub total_set : (f : V → ℕ) (l : List V) (i : ℕ) (v w : V) → get_elem? l i ≡ some v → total f (set l i w) + f v ≡ total f l + f w
  total_set f [] i v w e = absurd (some-ne-none v (sym e))
  total_set f (x ∷ xs) zero v w e = let h : f x ≡ f v = ap f (some-injective x v e) in omega arith
  total_set f (x ∷ xs) (suc i) v w e = omega (arith, total_set f xs i v w e)

  pub total_snoc : (f : V → ℕ) (l : List V) (w : V) → total f (l ++ w ∷ []) ≡ total f l + f w
  total_snoc f [] w = omega arith
  total_snoc f (x ∷ xs) w = omega (arith, total_snoc f xs w)

  pub total_at : (f : V → ℕ) (l : List V) (i : ℕ) (v : V) → get_elem? l i ≡ some v → f v ≤ total f l
  total_at f [] i v e = absurd (some-ne-none v (sym e))
  total_at f (x ∷ xs) zero v e = let h : f x ≡ f v = ap f (some-injective x v e) in omega arith
  total_at f (x ∷ xs) (suc i) v e = omega (arith, total_at f xs i v e)

  pub total_two : (f : V → ℕ) (l : List V) (i j : ℕ) (v w : V) → i ≢ j → get_elem? l i ≡ some v → get_elem? l j ≡ some w → f v + f w ≤ total f l
  total_two f [] i j v w n e d = absurd (some-ne-none v (sym e))
  total_two f (x ∷ xs) zero zero v w n e d = absurd (n refl)
  total_two f (x ∷ xs) zero (suc j) v w n e d = let h : f x ≡ f v = ap f (some-injective x v e) in omega (arith, total_at f xs j w d)
  total_two f (x ∷ xs) (suc i) zero v w n e d = let h : f x ≡ f w = ap f (some-injective x w d) in omega (arith, total_at f xs i v e)
  total_two f (x ∷ xs) (suc i) (suc j) v w n e d = omega (arith, total_two f xs i j v w (λ h. n (ap suc h)) e d)

  pub total_most : (f g : V → ℕ) (l : List V) → ((j : ℕ) (u : V) → get_elem? l j ≡ some u → f u ≤ g u) → total f l ≤ total g l
  total_most f g [] h = omega arith
  total_most f g (x ∷ xs) h = omega (arith, h 0 x refl, total_most f g xs (λ j u e. h (suc j) u e))

  -- one of them is less by one
  pub total_less : (f g : V → ℕ) (l : List V) (i : ℕ) (v : V) → ((j : ℕ) (u : V) → get_elem? l j ≡ some u → f u ≤ g u) → get_elem? l i ≡ some v → f v < g v → total f l < total g l
  total_less f g [] i v h e less = absurd (some-ne-none v (sym e))
  total_less f g (x ∷ xs) zero v h e less = let a : f x ≡ f v = ap f (some-injective x v e) in let b : g x ≡ g v = ap g (some-injective x v e) in omega (arith, total_most f g xs (λ j u e. h (suc j) u e))
  total_less f g (x ∷ xs) (suc i) v h e less = omega (arith, h 0 x refl, total_less f g xs i v (λ j u e. h (suc j) u e) e less)

  -- the seat that has all of p has all of f, where no other has of f without having of p
  pub total_none : (p f : V → ℕ) (l : List V) → total p l ≡ 0 → ((j : ℕ) (u : V) → get_elem? l j ≡ some u → p u ≡ 0 → f u ≡ 0) → total f l ≡ 0
  total_none p f [] e h = refl
  total_none p f (x ∷ xs) e h = let a : f x ≡ 0 = h 0 x refl (omega arith) in omega (arith, total_none p f xs (omega arith) (λ j u d. h (suc j) u d))

  pub total_alone : (p f : V → ℕ) (l : List V) (i : ℕ) (v : V) → get_elem? l i ≡ some v → total p l ≡ p v → ((j : ℕ) (u : V) → get_elem? l j ≡ some u → p u ≡ 0 → f u ≡ 0) → total f l ≡ f v
  total_alone p f [] i v e all h = absurd (some-ne-none v (sym e))
  total_alone p f (x ∷ xs) zero v e all h = let a : f x ≡ f v = ap f (some-injective x v e) in let b : p x ≡ p v = ap p (some-injective x v e) in omega (arith, total_none p f xs (omega arith) (λ j u d. h (suc j) u d))
  total_alone p f (x ∷ xs) (suc i) v e all h = let b : p v ≤ total p xs = total_at p xs i v e in let a : f x ≡ 0 = h 0 x refl (omega arith) in omega (arith, total_alone p f xs i v e (omega arith) (λ j u d. h (suc j) u d))
