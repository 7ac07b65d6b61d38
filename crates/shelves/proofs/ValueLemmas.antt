-- Entries whose values are seen through a function, and what holds of every value.
use Rattle.std.proofs.Common.{◌≡◌, ℕ, zero, suc, ◌+◌, ◌<◌, ◌≤◌, true, false, cond, not, ◌&&◌, List, [], ◌∷◌, ◌++◌, map, take, set, remove, length, get_or, Some, option_map, is_lt, Ordering, Less, Equal, Greater, refl, sym, ap, subst, ◌∙◌, arith, add-one}
use Rattle.std.specs.FinMap.Entries.{by_order, find, put, is_sorted, below_all}
use Rattle.std.specs.List.{AllByRecursion}
use Rattle.std.specs.Ordering.{eq_by_cmp}
use Rattle.std.proofs.lemmas.Option.{same_Some, none-some}
use Rattle.shelves.specs.Places.{IsInKeyOrder, entries_without}

module _ {K V W : Type 0} (R : K → K → Ordering) (f : V → W) where
  -- the entries, with each value seen
  abbrev pub values_seen : List (K × V) → List (K × W)
  values_seen es = map (λ e. (e.0, f e.1)) es

  below_seen : (x : K) (es : List (K × V)) → below_all R x (values_seen es) ≡ below_all R x es
  below_seen x [] = refl
  below_seen x (e ∷ es) = ap (λ b. is_lt (R x e.0) && b) (below_seen x es)

  sorted_seen : (es : List (K × V)) → is_sorted R (values_seen es) ≡ is_sorted R es
  sorted_seen [] = refl
  sorted_seen (e ∷ es) = ap (λ b. b && is_sorted R (values_seen es)) (below_seen e.0 es) ∙ ap (λ b. below_all R e.0 es && b) (sorted_seen es)

  pub order_seen : (es : List (K × V)) → IsInKeyOrder R es → IsInKeyOrder R (values_seen es)
  order_seen es order = sorted_seen es ∙ order

  pub order_from_seen : (es : List (K × V)) → IsInKeyOrder R (values_seen es) → IsInKeyOrder R es
  order_from_seen es order = sym (sorted_seen es) ∙ order

  pub find_seen : (key : K) (es : List (K × V)) → find R key (values_seen es) ≡ option_map f (find R key es)
  find_seen key [] = refl
  find_seen key (e ∷ es) =
      elim (eq_by_cmp R key e.0) as (λ b. cond b (Some (f e.1)) (find R key (values_seen es)) ≡ option_map f (cond b (Some e.1) (find R key es))) [ true ↦ refl | false ↦ find_seen key es ]

  pub put_seen : (key : K) (v : V) (es : List (K × V)) → values_seen (put R key v es) ≡ put R key (f v) (values_seen es)
  put_seen key v [] = refl
  put_seen key v (e ∷ es) =
      elim (R key e.0) as (λ r. values_seen (by_order r ((key, v) ∷ e ∷ es) ((e.0, v) ∷ es) (e ∷ put R key v es))
      ≡ by_order r ((key, f v) ∷ (e.0, f e.1) ∷ values_seen es) ((e.0, f v) ∷ values_seen es) ((e.0, f e.1) ∷ put R key (f v) (values_seen es))) [
        | Less ↦ refl
        | Equal ↦ refl
        | Greater ↦ ap (λ l. (e.0, f e.1) ∷ l) (put_seen key v es)
      ]

  pub without_seen : (key : K) (es : List (K × V)) → values_seen (entries_without R key es) ≡ entries_without R key (values_seen es)
  without_seen key [] = refl
  without_seen key (e ∷ es) =
      elim (eq_by_cmp R key e.0) as (λ b. values_seen (cond (not b) (e ∷ entries_without R key es) (entries_without R key es))
      ≡ cond (not b) ((e.0, f e.1) ∷ entries_without R key (values_seen es)) (entries_without R key (values_seen es))) [
        | true ↦ without_seen key es
        | false ↦ ap (λ l. (e.0, f e.1) ∷ l) (without_seen key es)
      ]

-- ---- what holds of every value

module _ {K V : Type 0} (R : K → K → Ordering) (P : V → Type 0) where
  -- it holds of each value
  abbrev pub AllValues : List (K × V) → Type 0
  AllValues es = AllByRecursion (λ e. P e.1) es

  pub all_put : (key : K) (v : V) (es : List (K × V)) → P v → AllValues es → AllValues (put R key v es)
  all_put key v [] p all = (p, tt)
  all_put key v (e ∷ es) p all =
      elim (R key e.0) as (λ r. AllValues (by_order r ((key, v) ∷ e ∷ es) ((e.0, v) ∷ es) (e ∷ put R key v es))) [
        | Less ↦ (p, all)
        | Equal ↦ (p, all.1)
        | Greater ↦ (all.0, all_put key v es p all.1)
      ]

  pub all_without : (key : K) (es : List (K × V)) → AllValues es → AllValues (entries_without R key es)
  all_without key [] all = tt
  all_without key (e ∷ es) all =
      let rest = all_without key es all.1 in
      elim (eq_by_cmp R key e.0) as (λ b. AllValues (cond (not b) (e ∷ entries_without R key es) (entries_without R key es))) [ true ↦ rest | false ↦ (all.0, rest) ]

  pub all_find : (key : K) (v : V) (es : List (K × V)) → AllValues es → find R key es ≡ Some v → P v
  all_find key v [] all is = absurd (none-some v is)
  all_find key v (e ∷ es) all is =
      elim (eq_by_cmp R key e.0) as (λ b. cond b (Some e.1) (find R key es) ≡ Some v → P v) [
        | true ↦ λ here. subst P (same_Some e.1 v here) all.0
        | false ↦ λ there. all_find key v es all.1 there
      ] is

-- ---- what holds of every item

module _ {A : Type 0} {P Q : A → Type 0} where
  pub all_more : ((x : A) → P x → Q x) → (l : List A) → AllByRecursion P l → AllByRecursion Q l
  all_more more [] all = tt
  all_more more (x ∷ l) all = (more x all.0, all_more more l all.1)

module _ {A : Type 0} {P Q R : A → Type 0} where
  pub all_both : ((x : A) → P x → Q x → R x) → (l : List A) → AllByRecursion P l → AllByRecursion Q l → AllByRecursion R l
  all_both both [] p q = tt
  all_both both (x ∷ l) p q = (both x p.0 q.0, all_both both l p.1 q.1)

module _ {A : Type 0} (P : A → Type 0) where
  pub all_get : (l : List A) (i : ℕ) (x : A) → i < length l → x ≡ get_or l i x → AllByRecursion P l → P x
  all_get [] i x within is all = absurd (omega arith)
  all_get (y ∷ l) zero x within is all = subst P (sym is) all.0
  all_get (y ∷ l) (suc i) x within is all = all_get l i x (omega arith) is all.1

  pub all_set : (l : List A) (i : ℕ) (y : A) → P y → AllByRecursion P l → AllByRecursion P (set l i y)
  all_set [] i y p all = tt
  all_set (x ∷ l) zero y p all = (p, all.1)
  all_set (x ∷ l) (suc i) y p all = (all.0, all_set l i y p all.1)

  all_taken_suc : (l : List A) (i : ℕ) (y : A) → P y → AllByRecursion P (take i l) → AllByRecursion P (take (suc i) (set l i y))
  all_taken_suc [] i y p all = tt
  all_taken_suc (x ∷ l) zero y p all = (p, tt)
  all_taken_suc (x ∷ l) (suc i) y p all = (all.0, all_taken_suc l i y p all.1)

  -- one item more has been written
  pub all_taken_more : (l : List A) (i : ℕ) (y : A) → P y → AllByRecursion P (take i l) → AllByRecursion P (take (i + 1) (set l i y))
  all_taken_more l i y p all = rw add-one (all_taken_suc l i y p all)

  -- all have been written
  pub all_taken : (l : List A) (i : ℕ) → length l ≤ i → AllByRecursion P (take i l) → AllByRecursion P l
  all_taken [] i within all = tt
  all_taken (x ∷ l) zero within all = absurd (omega arith)
  all_taken (x ∷ l) (suc i) within all = (all.0, all_taken l i (omega arith) all.1)

  -- one item goes in at the end, or comes from there
  pub all_push : (l : List A) (y : A) → AllByRecursion P l → P y → AllByRecursion P (l ++ y ∷ [])
  all_push [] y all p = (p, tt)
  all_push (x ∷ l) y all p = (all.0, all_push l y all.1 p)

  pub all_front : (l m : List A) → AllByRecursion P (l ++ m) → AllByRecursion P l
  all_front [] m all = tt
  all_front (x ∷ l) m all = (all.0, all_front l m all.1)

  pub all_last : (l : List A) (y : A) → AllByRecursion P (l ++ y ∷ []) → P y
  all_last [] y all = all.0
  all_last (x ∷ l) y all = all_last l y all.1

module _ {A : Type 0} where
  -- what is taken out leaves nothing of what was written there
  pub remove-set : (l : List A) (i : ℕ) (y : A) → remove (set l i y) i ≡ remove l i
  remove-set [] i y = refl
  remove-set (x ∷ l) zero y = refl
  remove-set (x ∷ l) (suc i) y = ap (λ m. x ∷ m) (remove-set l i y)
