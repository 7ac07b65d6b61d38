-- Which entries of a finite map pass a test.
use Rattle.std.proofs.Common.{◌≡◌, Bool, true, false, cond, ◌&&◌, ◌||◌, ◌⊎◌, inl, inr, T, List, [], ◌∷◌, map, Option, Some, None, refl, sym, ap, subst, ◌∙◌}
use Rattle.std.proofs.lemmas.Bool.{and_parts, or_left, or_right}
use Rattle.std.proofs.lemmas.Option.{same_Some}
use Rattle.std.specs.Cmp.{IsTotalOrder, tied_itself}
use Rattle.std.specs.FinMap as finite
use Rattle.std.specs.FinMap.Entries.{below_all, find, find_tied, is_sorted}
use Rattle.std.specs.List.{list_any}
use Rattle.std.specs.Ordering.{eq_by_cmp, is_eq, is_lt}
use Rattle.std.specs.declared.cmp.Ordering.{Ordering}
use Rattle.std.specs.declared.cmp.Ordering.TheVariants.{Less, Equal, Greater}
use Rattle.org_shelves.proofs.BoolLemmas.{either}

is_true : (b : Bool) → T b → b ≡ true
is_true true t = refl
is_true false t = absurd t

less_apart : (order : Ordering) → is_lt order ≡ true → is_eq order ≡ false
less_apart Less less = refl
less_apart Equal less = cc
less_apart Greater less = cc

module _ {X Y : Type 0} (passes : Y → Bool) (f : X → Y) where
  -- to test what was made of elements is to test the elements by what is made of them
  pub any_mapped : (xs : List X) → list_any passes (map f xs) ≡ list_any (λ x. passes (f x)) xs
  any_mapped [] = refl
  any_mapped (x ∷ xs) = ap (λ b. passes (f x) || b) (any_mapped xs)

module _ {K X : Type 0} (R : K → K → Ordering) (passes : X → Bool) where
  behind : (q : K) (e : K × X) (es : List (K × X)) (value : X) (b : Bool) → cond b (Some e.1) (find R q es) ≡ Some value → passes value ≡ true
      → (find R q es ≡ Some value → list_any (λ x. passes x.1) es ≡ true) → (passes e.1 || list_any (λ x. passes x.1) es) ≡ true
  behind q e es value true is pass rest = or_left (passes e.1) (list_any (λ x. passes x.1) es) (subst (λ (x : X). passes x ≡ true) (sym (same_Some e.1 value is)) pass)
  behind q e es value false is pass rest = or_right (passes e.1) (list_any (λ x. passes x.1) es) (rest is)

  -- a value that is found and passes is one of the entries that do
  any_found : (q : K) (es : List (K × X)) (value : X) → find R q es ≡ Some value → passes value ≡ true → list_any (λ x. passes x.1) es ≡ true
  any_found q [] value is pass = cc
  any_found q (e ∷ es) value is pass = behind q e es value (eq_by_cmp R q e.0) is pass (λ found. any_found q es value found pass)

  -- a key below all the entries' is none of theirs
  absent_below : (q : K) (es : List (K × X)) → below_all R q es ≡ true → find R q es ≡ None
  absent_below q [] below = refl
  absent_below q (e ∷ es) below =
      let parts = and_parts (is_lt (R q e.0)) (below_all R q es) below in
      ap (λ b. cond b (Some e.1) (find R q es)) (less_apart (R q e.0) parts.0) ∙ absent_below q es parts.1

  -- a key that is found behind an entry isn't the entry's
  not_tied : IsTotalOrder R → (q : K) (e : K × X) (es : List (K × X)) (value : X) → below_all R e.0 es ≡ true → find R q es ≡ Some value → eq_by_cmp R q e.0 ≡ false
  not_tied o q e es value below is =
      elim (R q e.0) as (λ r. R q e.0 ≡ r → is_eq r ≡ false) [
        | Less ↦ λ _. refl
        | Equal ↦ λ tie. cc (sym (find_tied R o q e.0 tie es ∙ is) ∙ absent_below e.0 es below)
        | Greater ↦ λ _. refl
      ] refl

  -- an entry that is found by its key, and passes
  pub record Found (es : List (K × X)) : Type 0 where
    pub key : K
    pub value : X
    pub is : find R key es ≡ Some value
    pub pass : passes value ≡ true

  found_any : IsTotalOrder R → (es : List (K × X)) → is_sorted R es ≡ true → list_any (λ x. passes x.1) es ≡ true → Found es
  found_any o [] sorted any = cc
  found_any o (e ∷ es) sorted any =
      let parts = and_parts (below_all R e.0 es) (is_sorted R es) sorted in
      elim (either (passes e.1) (list_any (λ x. passes x.1) es) any) [
        | inl here ↦ record { key = e.0; value = e.1; is = ap (λ b. cond b (Some e.1) (find R e.0 es)) (ap is_eq (tied_itself o e.0)); pass = here }
        | inr rest ↦ let found = found_any o es parts.1 rest in
            record { key = found.key; value = found.value; is = ap (λ b. cond b (Some e.1) (find R found.key es)) (not_tied o found.key e es found.value parts.0 found.is) ∙ found.is; pass = found.pass }
      ]

  -- what a map has at a key, and passes, is one of its entries that do
  pub any_in : (m : finite.FinMap R X) (q : K) (value : X) → finite.get m q ≡ Some value → passes value ≡ true → list_any (λ x. passes x.1) (finite.entries m) ≡ true
  any_in m q value is pass = any_found q (finite.entries m) value (sym (finite.get-entries m q) ∙ is) pass

  -- a value of a map that passes, with its key
  pub record In (m : finite.FinMap R X) : Type 0 where
    pub key : K
    pub value : X
    pub is : finite.get m key ≡ Some value
    pub pass : passes value ≡ true

  -- where an entry of a map passes, the map has one that does
  pub in_any : IsTotalOrder R → (m : finite.FinMap R X) → list_any (λ x. passes x.1) (finite.entries m) ≡ true → In m
  in_any o m any =
      let found = found_any o (finite.entries m) (is_true (is_sorted R (finite.entries m)) (finite.entries_sorted m)) any in
      record { key = found.key; value = found.value; is = finite.get-entries m found.key ∙ found.is; pass = found.pass }
