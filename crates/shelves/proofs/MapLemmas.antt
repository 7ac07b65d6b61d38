-- The finite map of entries in key order.
use Rattle.std.proofs.Common.{◌≡◌, ◌≢◌, ℕ, suc, ◌-◌, ◌<◌, Bool, true, false, cond, T, List, [], ◌∷◌, length, insert, remove, slice_get, slice_set, get_or, Option, Some, None, option_map, option_copied, IsTrue, IfSome, ◌==◌, ◌↔◌, is_some, Ordering, Less, Equal, Greater, refl, sym, ap, subst, ◌∙◌, arith}
use mathlib.Core.Bool.{true≢false}
use denote.Ref.{Bor}
use borrow.Author.Tests.{eqb-true}
use Rattle.std.specs.Cmp.{IsTotalOrder, tied_back, Equal-is}
use Rattle.std.specs.FinMap as finite
use Rattle.std.specs.FinMap.Entries.{find, put, is_sorted, below_all, is_sorted-put, is_sorted-where_key}
use Rattle.std.specs.Ordering.{eq_by_cmp}
use Rattle.std.proofs.lemmas.Option.{same_Some, slice_get_read, get_or_from_slice_get}
use Rattle.shelves.specs.Places.{IsInKeyOrder, entries_without, IsHeldAt, IsGapAt}
use Rattle.shelves.specs.SortedMap.{without_key, IsGreatest}
use Rattle.shelves.proofs.PlaceLemmas.{passed, true_of, left_of, right_of, flipped, below_at}

not_less : (r : Ordering) → r ≡ Equal → r ≢ Less
not_less r tie less = cc

above : (r : Ordering) → r ≡ Greater → r ≢ Less
above r over less = cc

module _ {K V : Type 0} (R : K → K → Ordering) (o : IsTotalOrder R) where
  -- the entries of the map are these
  pub entries_of : (es : List (K × V)) → IsInKeyOrder R es → finite.entries (finite.from_sorted {R = R} es) ≡ es
  entries_of es order = finite.entries-from_sorted R es (passed _ order)

  -- what the map has at a key
  pub get_of : (es : List (K × V)) (key : K) → IsInKeyOrder R es → finite.get (finite.from_sorted {R = R} es) key ≡ find R key es
  get_of es key order = finite.get-from_sorted R es key (passed _ order)

  pub len_of : (es : List (K × V)) → IsInKeyOrder R es → finite.len (finite.from_sorted {R = R} es) ≡ length es
  len_of es order = finite.len-entries _ ∙ ap length (entries_of es order)

  -- a value more
  pub order_put : (key : K) (v : V) (es : List (K × V)) → IsInKeyOrder R es → IsInKeyOrder R (put R key v es)
  order_put key v es order = true_of _ (is_sorted-put R o key v es (passed _ order))

  pub map_put : (key : K) (v : V) (es : List (K × V)) → IsInKeyOrder R es → finite.from_sorted {R = R} (put R key v es) ≡ finite.insert (finite.from_sorted es) key v
  map_put key v es order =
      finite.same_entries_map _ _ (entries_of _ (order_put key v es order) ∙ sym (finite.entries-insert o (finite.from_sorted es) key v ∙ ap (put R key v) (entries_of es order)))

  -- a value less
  pub order_without : (key : K) (es : List (K × V)) → IsInKeyOrder R es → IsInKeyOrder R (entries_without R key es)
  order_without key es order = true_of _ (is_sorted-where_key R _ es (passed _ order))

  pub map_without : (key : K) (es : List (K × V)) → IsInKeyOrder R es → finite.from_sorted {R = R} (entries_without R key es) ≡ without_key key (finite.from_sorted es)
  map_without key es order = ap (λ l. finite.from_sorted {R = R} (entries_without R key l)) (sym (entries_of es order))

  -- no entries
  no_entries : (es : List (K × V)) → length es ≡ 0 → es ≡ []
  no_entries [] none = refl
  no_entries (e ∷ es) none = absurd (omega arith)

  pub map_none : finite.from_sorted {X = V} {R = R} [] ≡ finite.empty
  map_none = finite.empty_of_len _ (len_of [] refl)

  pub none_of_map : (es : List (K × V)) → IsInKeyOrder R es → finite.from_sorted {R = R} es ≡ finite.empty → es ≡ []
  none_of_map es order is = no_entries es (sym (len_of es order) ∙ ap finite.len is ∙ finite.len-empty R V)

  -- ---- at the place that a search found

  module _ (es : List (K × V)) (key : K) (at : ℕ) where
    pub got : (x : K × V) → IsInKeyOrder R es → IsHeldAt R key es at → x ≡ get_or es at x → Some x.1 ≡ finite.get (finite.from_sorted {R = R} es) key
    got x order here is = sym (get_of es key order ∙ here.value ∙ ap (option_map (λ e. e.1)) (slice_get_read es (length es) at x refl here.within is))

    pub missed : IsInKeyOrder R es → IsGapAt R key es at → None ≡ finite.get (finite.from_sorted {R = R} es) key
    missed order gap = sym (get_of es key order ∙ gap.absent)

    pub written_is : (x : K × V) (v w : V) → IsHeldAt R key es at → x ≡ get_or es at x → w ≡ v → slice_set es at (x.0, w) ≡ put R key v es
    written_is x v w here is same =
        ap (λ u. slice_set es at (x.0, u)) same ∙ sym (here.written x v (slice_get_read es (length es) at x refl here.within is))

  module _ {es new : List (K × V)} {key : K} {at : ℕ} where
    pub added_is : (v : V) (b : Bool) → IsGapAt R key es at → new ≡ cond b (insert es at (key, v)) es → b ≡ true → new ≡ put R key v es
    added_is v b gap is ok = is ∙ ap (λ (t : Bool). cond t (insert es at (key, v)) es) ok ∙ sym (gap.added v)

    pub taken_is : IsHeldAt R key es at → new ≡ remove es at → new ≡ entries_without R key es
    taken_is here is = is ∙ sym here.taken

  pub map_kept : {es : List (K × V)} {key : K} {at : ℕ} → IsInKeyOrder R es → IsGapAt R key es at → finite.from_sorted {R = R} es ≡ without_key key (finite.from_sorted es)
  map_kept {es} {key} order gap = ap (λ l. finite.from_sorted {R = R} l) (sym gap.kept) ∙ map_without key es order

  -- ---- the last entry

  top : (es : List (K × V)) → T (is_sorted R es) → (x : K × V) → slice_get es (length es - 1) ≡ Some x → (key : K) → is_some (find R key es) ≡ true → R x.0 key ≢ Less
  top [] h x is key found = absurd (true≢false (sym found))
  top (e ∷ []) h x is key found =
      elim (eq_by_cmp R key e.0) as (λ b. eq_by_cmp R key e.0 ≡ b → is_some (cond b (Some e.1) (find R key [])) ≡ true → R x.0 key ≢ Less) [
        | true ↦ λ tie _. not_less _ (subst (λ (y : K × V). R y.0 key ≡ Equal) (same_Some e x is) (tied_back o key e.0 ((Equal-is _).0 tie)))
        | false ↦ λ _ none. absurd (true≢false (sym none))
      ] refl found
  top (e ∷ f ∷ es) h x is key found =
      let places : length (e ∷ f ∷ es) - 1 ≡ suc (length (f ∷ es) - 1) = omega arith in
      let there : slice_get (f ∷ es) (length (f ∷ es) - 1) ≡ Some x = sym (ap (slice_get (e ∷ f ∷ es)) places) ∙ is in
      elim (eq_by_cmp R key e.0) as (λ b. eq_by_cmp R key e.0 ≡ b → is_some (cond b (Some e.1) (find R key (f ∷ es))) ≡ true → R x.0 key ≢ Less) [
        | true ↦ λ tie _.
            let within : length (f ∷ es) - 1 < length (f ∷ es) = omega arith in
            let first : R e.0 x.0 ≡ Less = subst (λ (y : K × V). R e.0 y.0 ≡ Less) (get_or_from_slice_get (f ∷ es) _ x e there) (below_at R o e.0 (f ∷ es) (length (f ∷ es) - 1) e (left_of (below_all R e.0 (f ∷ es)) (is_sorted R (f ∷ es)) h) within) in
            above _ (flipped R o key x.0 (o.congr key e.0 x.0 ((Equal-is _).0 tie) ∙ first))
        | false ↦ λ _ rest. top (f ∷ es) (right_of (below_all R e.0 (f ∷ es)) (is_sorted R (f ∷ es)) h) x there key rest
      ] refl found

  pub greatest_is : (es : List (K × V)) (x : K × V) → IsInKeyOrder R es → slice_get es (length es - 1) ≡ Some x → IsGreatest x.0 (finite.from_sorted {R = R} es)
  greatest_is es x order is key found = top es (passed _ order) x is key (ap is_some (sym (get_of es key order)) ∙ found)

  pub last_is : (es : List (K × V)) → IsInKeyOrder R es → slice_get es (length es - 1) ≡ slice_get (finite.entries (finite.from_sorted {R = R} es)) (finite.len (finite.from_sorted {R = R} es) - 1)
  last_is es order = sym (ap (λ l. slice_get l (finite.len (finite.from_sorted {R = R} es) - 1)) (entries_of es order) ∙ ap (λ n. slice_get es (n - 1)) (len_of es order))

  -- ---- what a call says

  pub empty_is : (es : List (K × V)) (n : ℕ) (b : Bool) → IsInKeyOrder R es → n ≡ length es → b ≡ (n == 0) → IsTrue b ↔ (finite.from_sorted {R = R} es ≡ finite.empty)
  empty_is [] n b order len is = (λ _. map_none, λ _. is ∙ ap (λ k. k == 0) len)
  empty_is (e ∷ es) n b order len is =
      (λ yes. absurd (omega (arith, eqb-true n 0 (sym is ∙ yes), len)), λ none. absurd (omega (arith, ap length (none_of_map (e ∷ es) order none))))

  pub greatest_of : (es : List (K × V)) (r : Option (Bor (K × V))) → IsInKeyOrder R es → option_copied r ≡ slice_get es (length es - 1) → IfSome r (λ entry. IsGreatest entry.now.0 (finite.from_sorted {R = R} es))
  greatest_of es None order is = tt
  greatest_of es (Some x) order is = greatest_is es x.now order (sym is)
