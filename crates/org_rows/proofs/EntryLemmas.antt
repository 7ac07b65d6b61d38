-- What holds of all that a finite map has at its keys holds of its entries.
use Rattle.std.proofs.Common.{◌≡◌, Bool, true, false, cond, T, List, [], ◌∷◌, Some, None, refl, sym, ap, ◌∙◌}
use Rattle.std.proofs.lemmas.Bool.{and_parts}
use Rattle.std.specs.Cmp.{IsTotalOrder, Equal-is, tied_itself}
use Rattle.std.specs.FinMap as finite
use Rattle.std.specs.FinMap.Entries.{below_all, find, find_tied, is_sorted}
use Rattle.std.specs.Ordering.{eq_by_cmp, is_eq, is_lt}
use Rattle.std.specs.declared.cmp.Ordering.{Ordering}
use Rattle.std.specs.declared.cmp.Ordering.TheVariants.{Less, Equal, Greater}

is_true : (b : Bool) → T b → b ≡ true
is_true true t = refl
is_true false t = absurd t

less_apart : (order : Ordering) → is_lt order ≡ true → is_eq order ≡ false
less_apart Less less = refl
less_apart Equal less = cc
less_apart Greater less = cc

module _ {K X : Type 0} (R : K → K → Ordering) (total : IsTotalOrder R) where
  -- a key below all the entries' is none of theirs
  absent_below : (q : K) (es : List (K × X)) → below_all R q es ≡ true → find R q es ≡ None
  absent_below q [] below = refl
  absent_below q (e ∷ es) below =
      let parts = and_parts (is_lt (R q e.0)) (below_all R q es) below in
      ap (λ b. cond b (Some e.1) (find R q es)) (less_apart (R q e.0) parts.0) ∙ absent_below q es parts.1

  -- a key that is found behind an entry isn't the entry's
  not_tied : (q : K) (e : K × X) (es : List (K × X)) (value : X) → below_all R e.0 es ≡ true → find R q es ≡ Some value → eq_by_cmp R q e.0 ≡ false
  not_tied q e es value below is =
      elim (R q e.0) as (λ r. R q e.0 ≡ r → is_eq r ≡ false) [
        | Less ↦ λ _. refl
        | Equal ↦ λ tie. cc (sym (find_tied R total q e.0 tie es ∙ is) ∙ absent_below e.0 es below)
        | Greater ↦ λ _. refl
      ] refl

  module _ (P : K → X → Type 0) where
    -- each entry is such a one
    abbrev pub AllEntries : List (K × X) → Type 0
    AllEntries [] = Unit {0}
    AllEntries (e ∷ es) = P e.0 e.1 × AllEntries es

    all_found : (es : List (K × X)) → is_sorted R es ≡ true → ((q : K) (x : X) → find R q es ≡ Some x → P q x) → AllEntries es
    all_found [] sorted each = tt
    all_found (e ∷ es) sorted each =
        let parts = and_parts (below_all R e.0 es) (is_sorted R es) sorted in (
          each e.0 e.1 (ap (λ b. cond b (Some e.1) (find R e.0 es)) ((Equal-is _).1 (tied_itself total e.0))),
          all_found es parts.1 (λ q x is. each q x (ap (λ b. cond b (Some e.1) (find R q es)) (not_tied q e es x parts.0 is) ∙ is)),
        )

    -- of a finite map
    pub all_entries : (m : finite.FinMap R X) → ((q : K) (x : X) → finite.get m q ≡ Some x → P q x) → AllEntries (finite.entries m)
    all_entries m each = all_found (finite.entries m) (is_true _ (finite.entries_sorted m)) (λ q x is. each q x (finite.get-entries m q ∙ is))
