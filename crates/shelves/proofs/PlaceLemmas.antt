-- What a search by halves finds among entries in key order.
use Rattle.std.proofs.Common.{◌≡◌, ℕ, zero, suc, ◌+◌, ◌<◌, ◌≤◌, Bool, true, false, cond, not, ◌&&◌, T, List, [], ◌∷◌, length, slice_index_or, Some, None, Result, Ok, Err, IsSortedByKey, is_lt, is_eq, Ordering, Less, Equal, Greater, refl, sym, ap, subst, ◌∙◌, arith}
use Rattle.std.specs.Cmp.{IsTotalOrder, alike_right, tied_back}
use Rattle.std.specs.FinMap.Entries.{by_order, find, put, is_sorted, below_all}
use Rattle.std.specs.List.{AllByRecursion, AllWithin}
use Rattle.std.specs.List.Sorted.{IsSearchInRange, IsBinarySearchResult}
use Rattle.std.specs.Ordering.{ordering_reverse}
use Rattle.std.proofs.lemmas.List.Sorted.{searchable_from_sorted}
use Rattle.std.proofs.lemmas.Option.{same_Some}
use Rattle.shelves.specs.Places.{IsInKeyOrder, entries_without, IsHeldAt, IsGapAt, IsPlace}

-- ---- tests

-- a test that is true
pub passed : (b : Bool) → b ≡ true → T b
passed b e = subst T (sym e) tt

-- and back
pub true_of : (b : Bool) → T b → b ≡ true
true_of true h = refl
true_of false h = absurd h

pub left_of : (a b : Bool) → T (a && b) → T a
left_of true b h = tt
left_of false b h = absurd h

pub right_of : (a b : Bool) → T (a && b) → T b
right_of true b h = h
right_of false b h = absurd h

from_lt : (r : Ordering) → T (is_lt r) → r ≡ Less
from_lt Less h = refl
from_lt Equal h = absurd h
from_lt Greater h = absurd h

module _ {K : Type 0} (R : K → K → Ordering) (o : IsTotalOrder R) where
  pub flipped : (x y : K) → R x y ≡ Less → R y x ≡ Greater
  flipped x y h = o.antisymm y x ∙ ap ordering_reverse h

  turned : (x y : K) → R x y ≡ Greater → R y x ≡ Less
  turned x y h = o.antisymm y x ∙ ap ordering_reverse h

module _ {K V : Type 0} (R : K → K → Ordering) (o : IsTotalOrder R) where
  -- ---- keys that rise

  -- a key below all is below the one at a place
  pub below_at : (x : K) (es : List (K × V)) (i : ℕ) (d : K × V) → T (below_all R x es) → i < length es → R x (slice_index_or es i d).0 ≡ Less
  below_at x [] i d h within = absurd (omega arith)
  below_at x (e ∷ es) zero d h within = from_lt _ (left_of _ _ h)
  below_at x (e ∷ es) (suc i) d h within = below_at x es i d (right_of (is_lt (R x e.0)) _ h) (omega arith)

  rises : (es : List (K × V)) → T (is_sorted R es) → (i j : ℕ) (d : K × V) → i < j → j < length es → R (slice_index_or es i d).0 (slice_index_or es j d).0 ≡ Less
  rises [] h i j d lt within = absurd (omega arith)
  rises (e ∷ es) h i zero d lt within = absurd (omega arith)
  rises (e ∷ es) h zero (suc j) d lt within = below_at e.0 es j d (left_of (below_all R e.0 es) (is_sorted R es) h) (omega arith)
  rises (e ∷ es) h (suc i) (suc j) d lt within = rises es (right_of (below_all R e.0 es) (is_sorted R es) h) i j d (omega arith) (omega arith)

  never_falls : (es : List (K × V)) → T (is_sorted R es) → IsSortedByKey (λ e. e.0) R es
  never_falls es h k d from within = ap is_lt (flipped R o _ _ (rises es h k (k + 1) d (omega arith) within))

  module _ (key : K) where
    -- a place among the same entries
    pub held_in : {es fs : List (K × V)} {at : ℕ} → es ≡ fs → IsHeldAt R key es at → IsHeldAt R key fs at
    held_in {at = at} same here = subst (λ (l : List (K × V)). IsHeldAt R key l at) same here

    pub gap_in : {es fs : List (K × V)} {at : ℕ} → es ≡ fs → IsGapAt R key es at → IsGapAt R key fs at
    gap_in {at = at} same gap = subst (λ (l : List (K × V)). IsGapAt R key l at) same gap

    -- ---- entries of other keys

    -- no entry has the key
    Differs : List (K × V) → Type 0
    Differs es = AllByRecursion (λ e. is_eq (R key e.0) ≡ false) es

    absent : (es : List (K × V)) → Differs es → find R key es ≡ None
    unfolding Differs
    absent [] other = refl
    absent (e ∷ es) other = ap (λ b. cond b (Some e.1) (find R key es)) other.0 ∙ absent es other.1

    kept : (es : List (K × V)) → Differs es → entries_without R key es ≡ es
    unfolding Differs
    kept [] other = refl
    kept (e ∷ es) other = ap (λ b. cond (not b) (e ∷ entries_without R key es) (entries_without R key es)) other.0 ∙ ap (λ l. e ∷ l) (kept es other.1)

    -- a key below the first of a list in order is in none of it
    differs_below : (x : K) (es : List (K × V)) → R key x ≡ Less → T (below_all R x es) → Differs es
    unfolding Differs
    differs_below x [] lt h = tt
    differs_below x (e ∷ es) lt h = (ap is_eq (o.trans key x e.0 lt (from_lt _ (left_of _ _ h))), differs_below x es lt (right_of (is_lt (R x e.0)) _ h))

    -- nor is one that ties with what is below all
    differs_tied : (x : K) (es : List (K × V)) → R x key ≡ Equal → T (below_all R x es) → Differs es
    unfolding Differs
    differs_tied x [] tie h = tt
    differs_tied x (e ∷ es) tie h = (ap is_eq (sym (o.congr x key e.0 tie) ∙ from_lt _ (left_of _ _ h)), differs_tied x es tie (right_of (is_lt (R x e.0)) _ h))

    -- ---- one entry in front

    put_later : (e : K × V) (es : List (K × V)) (v : V) → R key e.0 ≡ Greater → put R key v (e ∷ es) ≡ e ∷ put R key v es
    put_later e es v over = ap (λ r. by_order r ((key, v) ∷ e ∷ es) ((e.0, v) ∷ es) (e ∷ put R key v es)) over

    find_later : (e : K × V) (es : List (K × V)) → R key e.0 ≡ Greater → find R key (e ∷ es) ≡ find R key es
    find_later e es over = ap (λ r. cond (is_eq r) (Some e.1) (find R key es)) over

    without_later : (e : K × V) (es : List (K × V)) → R key e.0 ≡ Greater → entries_without R key (e ∷ es) ≡ e ∷ entries_without R key es
    without_later e es over = ap (λ r. cond (not (is_eq r)) (e ∷ entries_without R key es) (entries_without R key es)) over

    gap_later : (e : K × V) (es : List (K × V)) (i : ℕ) → R key e.0 ≡ Greater → IsGapAt R key es i → IsGapAt R key (e ∷ es) (suc i)
    gap_later e es i over gap = record {
      within = omega (arith, gap.within);
      absent = find_later e es over ∙ gap.absent;
      added = λ v. put_later e es v over ∙ ap (λ l. e ∷ l) (gap.added v);
      kept = without_later e es over ∙ ap (λ l. e ∷ l) gap.kept;
    }

    held_later : (e : K × V) (es : List (K × V)) (i : ℕ) → R key e.0 ≡ Greater → IsHeldAt R key es i → IsHeldAt R key (e ∷ es) (suc i)
    held_later e es i over here = record {
      within = omega (arith, here.within);
      value = find_later e es over ∙ here.value;
      written = λ x v is. put_later e es v over ∙ ap (λ l. e ∷ l) (here.written x v is);
      taken = without_later e es over ∙ ap (λ l. e ∷ l) here.taken;
    }

    -- ---- at the first entry

    gap_here : (e : K × V) (es : List (K × V)) → T (is_sorted R (e ∷ es)) → R key e.0 ≡ Less → IsGapAt R key (e ∷ es) zero
    unfolding Differs
    gap_here e es h under =
        let other : Differs (e ∷ es) = (ap is_eq under, differs_below e.0 es under (left_of (below_all R e.0 es) (is_sorted R es) h)) in
        record {
          within = omega arith;
          absent = absent (e ∷ es) other;
          added = λ v. ap (λ r. by_order r ((key, v) ∷ e ∷ es) ((e.0, v) ∷ es) (e ∷ put R key v es)) under;
          kept = kept (e ∷ es) other;
        }

    held_here : (e : K × V) (es : List (K × V)) → T (is_sorted R (e ∷ es)) → R e.0 key ≡ Equal → IsHeldAt R key (e ∷ es) zero
    held_here e es h tie =
        let equal = tied_back o e.0 key tie in
        record {
          within = omega arith;
          value = ap (λ r. cond (is_eq r) (Some e.1) (find R key es)) equal;
          written = λ x v is. ap (λ r. by_order r ((key, v) ∷ e ∷ es) ((e.0, v) ∷ es) (e ∷ put R key v es)) equal ∙ ap (λ (y : K × V). (y.0, v) ∷ es) (same_Some e x is);
          taken = ap (λ r. cond (not (is_eq r)) (e ∷ entries_without R key es) (entries_without R key es)) equal
              ∙ kept es (differs_tied e.0 es tie (left_of (below_all R e.0 es) (is_sorted R es) h));
        }

    -- ---- where the search ends

    gap_at : (es : List (K × V)) → T (is_sorted R es) → (i : ℕ) → i ≤ length es → AllWithin (λ e. R e.0 key ≡ Less) es 0 i → AllWithin (λ e. R e.0 key ≡ Greater) es i (length es)
        → IsGapAt R key es i
    gap_at [] h zero within under over = record { within = omega arith; absent = refl; added = λ v. refl; kept = refl }
    gap_at [] h (suc i) within under over = absurd (omega arith)
    gap_at (e ∷ es) h zero within under over = gap_here e es h (turned R o e.0 key (over 0 e (omega arith) (omega arith)))
    gap_at (e ∷ es) h (suc i) within under over =
        gap_later e es i (flipped R o e.0 key (under 0 e (omega arith) (omega arith)))
        (gap_at es (right_of (below_all R e.0 es) (is_sorted R es) h) i (omega arith) (λ j d from lt. under (suc j) d (omega arith) (omega arith)) (λ j d from lt. over (suc j) d (omega arith) (omega arith)))

    held_at : (es : List (K × V)) → T (is_sorted R es) → (i : ℕ) → i < length es → ((d : K × V) → R (slice_index_or es i d).0 key ≡ Equal) → IsHeldAt R key es i
    held_at [] h i within tie = absurd (omega arith)
    held_at (e ∷ es) h zero within tie = held_here e es h (tie e)
    held_at (e ∷ es) h (suc i) within tie =
        let below = below_at e.0 es i e (left_of (below_all R e.0 es) (is_sorted R es) h) (omega arith) in
        let under : R e.0 key ≡ Less = sym (alike_right o (slice_index_or es i e).0 key e.0 (tie e)) ∙ below in
        held_later e es i (flipped R o e.0 key under) (held_at es (right_of (below_all R e.0 es) (is_sorted R es) h) i (omega arith) tie)

    pub searched : (es : List (K × V)) (r : Result ℕ ℕ) → IsInKeyOrder R es → IsSearchInRange r (length es) → IsBinarySearchResult (λ e. R e.0 key) es r → IsPlace R key es r
    searched es (Ok i) order within found = held_at es (passed _ order) i within found
    searched es (Err i) order within found =
        let parts = found (searchable_from_sorted o (λ e. e.0) es key (never_falls es (passed _ order))) in
        gap_at es (passed _ order) i within parts.0 parts.1
