-- Sets of numbers: sorted, searched, kept and joined.
use Rattle.std.proofs.Common.{◌≡◌, ◌≢◌, ◌∙◌, ◌↔◌, ◌+◌, ◌<◌, ◌&&◌, ◌||◌, ℕ, zero, suc, Bool, true, false, eqb, List, [], ◌∷◌, ◌++◌, length, take, get_or, Result, Ok, Err, IsTrue, refl, sym, ap, inl, inr, eq-eqb, eqb-true, arith}
use Rattle.std.specs.List.Sorted.{IsBinarySearchResult, IsNonDecreasing}
use Rattle.std.specs.Ordering.{nat_cmp}
use Rattle.std.specs.Result.{is_ok}
use Rattle.std.proofs.lemmas.Bool.{cases_Bool, cases_lt, false≢true}
use Rattle.std.proofs.lemmas.List.{take_more}
use Rattle.std.proofs.lemmas.List.Folds.{list_any-append}
use Rattle.std.proofs.lemmas.List.Sorted.{searched}
use mathlib.Core.Bool.{beq}
use Rattle.ordered_keys.specs.Numbers.{Among}
use Rattle.search_index.specs.Found.{both_are, is_in}

pub in_at : (xs : List ℕ) (i x : ℕ) → i < length xs → get_or xs i 0 ≡ x → is_in xs x ≡ true
in_at [] i x h e = absurd (omega arith)
in_at (y ∷ xs) zero x h e = ap (λ b. b || is_in xs x) (eq-eqb x y (sym e))
in_at (y ∷ xs) (suc i) x h e = elim (eqb x y) as (λ b. (b || is_in xs x) ≡ true) [ true ↦ refl | false ↦ in_at xs i x (omega arith) e ]

pub out_all : (xs : List ℕ) (x : ℕ) → ((k : ℕ) → k < length xs → get_or xs k 0 ≢ x) → is_in xs x ≡ false
out_all [] x h = refl
out_all (y ∷ xs) x h = elim (cases_Bool (eqb x y)) [
  | inl same ↦ absurd (h 0 (omega arith) (sym (eqb-true x y same)))
  | inr other ↦ ap (λ b. b || is_in xs x) other ∙ out_all xs x (λ k lt. h (suc k) (omega arith))
]

pub has_is : (xs : List ℕ) (x : ℕ) (r : Result ℕ ℕ) → IsBinarySearchResult (λ y. nat_cmp y x) xs r → IsNonDecreasing xs → is_ok r ≡ is_in xs x
has_is xs x (Ok i) is sorted = let at = searched xs x (Ok i) is (λ i j. sorted i j 0) in sym (in_at xs i x at.0 at.1)
has_is xs x (Err i) is sorted =
    let at = searched xs x (Err i) is (λ i j. sorted i j 0) in
    sym (out_all xs x (λ k lt e. elim (cases_lt k i) [ inl before ↦ absurd (omega (arith, at.1 k before, e)) | inr after ↦ absurd (omega (arith, at.2 k after lt, e)) ]))

both_and : (a c e : Bool) → (e ≡ true → c ≡ true) → ((a && c) || (e || false)) ≡ ((a || (e || false)) && c)
both_and true true true h = refl
both_and true true false h = refl
both_and true false true h = absurd (false≢true (h refl))
both_and true false false h = refl
both_and false true true h = refl
both_and false true false h = refl
both_and false false true h = absurd (false≢true (h refl))
both_and false false false h = refl

not_and : (a c e : Bool) → (e ≡ true → c ≡ false) → (a && c) ≡ ((a || (e || false)) && c)
not_and true true true h = refl
not_and true true false h = refl
not_and true false true h = refl
not_and true false false h = refl
not_and false true true h = absurd (false≢true (sym (h refl)))
not_and false true false h = refl
not_and false false true h = refl
not_and false false false h = refl

more_in : (xs : List ℕ) (i n x : ℕ) → i < length xs → n ≡ get_or xs i n → is_in (take (i + 1) xs) x ≡ (is_in (take i xs) x || (eqb x n || false))
more_in xs i n x within at = ap (λ z. is_in z x) (take_more xs i n within) ∙ list_any-append (eqb x) (take i xs) (get_or xs i n ∷ []) ∙ ap (λ z. is_in (take i xs) x || (eqb x z || false)) (sym at)

pub kept_more : (xs items : List ℕ) (c : ℕ → Bool) (i n : ℕ) → i < length xs → n ≡ get_or xs i n → ((x : ℕ) → is_in items x ≡ (is_in (take i xs) x && c x)) → c n ≡ true → (x : ℕ) → is_in (items ++ n ∷ []) x ≡ (is_in (take (i + 1) xs) x && c x)
kept_more xs items c i n within at so_far yes_is x =
    list_any-append (eqb x) items (n ∷ []) ∙ ap (λ z. z || (eqb x n || false)) (so_far x)
    ∙ both_and (is_in (take i xs) x) (c x) (eqb x n) (λ e. ap c (eqb-true x n e) ∙ yes_is)
    ∙ ap (λ z. z && c x) (sym (more_in xs i n x within at))

pub kept_less : (xs items : List ℕ) (c : ℕ → Bool) (i n : ℕ) → i < length xs → n ≡ get_or xs i n → ((x : ℕ) → is_in items x ≡ (is_in (take i xs) x && c x)) → c n ≡ false → (x : ℕ) → is_in items x ≡ (is_in (take (i + 1) xs) x && c x)
kept_less xs items c i n within at so_far no_is x =
    so_far x ∙ not_and (is_in (take i xs) x) (c x) (eqb x n) (λ e. ap c (eqb-true x n e) ∙ no_is) ∙ ap (λ z. z && c x) (sym (more_in xs i n x within at))

pub same_both : (a w : Bool) → a ≡ w → both_are a w ≡ true
same_both true true e = refl
same_both true false e = absurd (false≢true (sym e))
same_both false true e = absurd (false≢true e)
same_both false false e = refl

pub other_both : (a w : Bool) → a ≢ w → both_are a w ≡ false
other_both true true e = absurd (e refl)
other_both true false e = refl
other_both false true e = refl
other_both false false e = absurd (e refl)

pub joined_in : (xs ys : List ℕ) (x : ℕ) → is_in (xs ++ ys) x ≡ (is_in xs x || is_in ys x)
joined_in xs ys x = list_any-append (eqb x) xs ys

pub beq_same : (a w : Bool) → beq a w ≡ true → both_are a w ≡ true
beq_same true true e = refl
beq_same true false e = absurd (false≢true e)
beq_same false true e = absurd (false≢true e)
beq_same false false e = refl

pub beq_other : (a w : Bool) → beq a w ≡ false → both_are a w ≡ false
beq_other true true e = absurd (false≢true (sym e))
beq_other true false e = refl
beq_other false true e = refl
beq_other false false e = absurd (false≢true (sym e))

pub in_among : (xs : List ℕ) (x : ℕ) → IsTrue (is_in xs x) ↔ Among xs x
in_among [] x = (λ h. absurd (false≢true h), λ a. absurd a)
in_among (y ∷ xs) x =
    let rest = in_among xs x in (
      λ h. elim (cases_Bool (eqb x y)) [
        | inl same ↦ inl (sym (eqb-true x y same))
        | inr other ↦ inr (rest.0 (sym (ap (λ b. b || is_in xs x) other) ∙ h))
      ],
      elim [
        | inl e ↦ ap (λ b. b || is_in xs x) (eq-eqb x y (sym e))
        | inr a ↦ elim (eqb x y) as (λ b. (b || is_in xs x) ≡ true) [ true ↦ refl | false ↦ rest.1 a ]
      ],
    )
