-- Places, taken and free: how each change keeps the count and the list of the free ones.
use Rattle.std.proofs.Common.{◌≡◌, ◌≢◌, ℕ, zero, suc, ◌+◌, ◌-◌, ◌<◌, inl, inr, List, [], ◌∷◌, ◌++◌, map, length, get_or, set, slice_get, Option, Some, None, is_some, IsSome, cond, count_by, min, refl, sym, ap, subst, ◌∙◌, arith, true≢false}
use Rattle.std.proofs.lemmas.Bool.{cases_eq, ne_eqb, eq-eqb}
use Rattle.std.proofs.lemmas.List.{map-set, map_push, length-map, length-set, length_push, get_or-map, get_or-set_same, get_or-set_other, get_or_past}
use Rattle.std.proofs.lemmas.List.Sums.{sum_by-set, sum_by_push}
use Rattle.std.proofs.lemmas.Option.{slice_get_within, get_or_from_slice_get}
use Rattle.search_index.specs.Place.{no_number}
use Rattle.search_index.specs.Places.{IsFreeList, IsStored, IsTaken, Places, Updates, get, places_of, taken_count, value_of, with_value}
use Rattle.search_index.specs.declared.posting.Posting.{Posting}
use Rattle.search_index.proofs.ChainLemmas.{slice_get-set_same, slice_get-set_other}

-- one for a posting, and none for nothing
abbrev one_of : Option Posting → ℕ
one_of o = cond (is_some o) 1 0

-- ---- what is in a place

pub updates_set : (old new : Places) (place : ℕ) (slot : Option Posting) → place < length old.slots → new.slots ≡ set old.slots place slot → Updates old new place slot
updates_set old new place slot within written =
    record {
      changed = rw written (get_or-set_same old.slots place slot None within);
      others = λ other differs. rw written (get_or-set_other old.slots place other slot None differs);
    }

pub taken_within : (s : Places) (place : ℕ) → IsTaken s place → place < length s.slots
taken_within s place present = grind (arith, get_or_past)

pub updates_written : (s : Places) (place : ℕ) (x : Posting) → IsTaken s place → Updates s (with_value s place x) place (Some x)
updates_written s place x present = updates_set s (with_value s place x) place (Some x) (taken_within s place present) refl

pub value_taken : (x : Posting) → x.object ≢ no_number → value_of x ≡ Some x
value_taken x differs = ap (λ b. cond b None (Some x)) (ne_eqb x.object no_number differs)

pub value_free : (x : Posting) → x.object ≡ no_number → value_of x ≡ None
value_free x same = ap (λ b. cond b None (Some x)) (eq-eqb x.object no_number same)

pub value_is : (x y : Posting) → value_of x ≡ Some y → (x ≡ y) × (x.object ≢ no_number)
value_is x y e = elim (cases_eq x.object no_number) [
  | inl same ↦ let none = value_free x same in absurd (cc)
  | inr differs ↦ let some = value_taken x differs in let one : x ≡ y = cc in (one, differs)
]

-- where a place tells a posting, that one is written there
pub written_at : (xs : List Posting) (place : ℕ) (y : Posting) → get_or (map value_of xs) place None ≡ Some y → (slice_get xs place ≡ Some y) × (y.object ≢ no_number)
written_at [] place y e = absurd (cc)
written_at (x ∷ xs) zero y e = let is = value_is x y e in (ap Some is.0, subst (λ (z : Posting). z.object ≢ no_number) is.0 is.1)
written_at (x ∷ xs) (suc place) y e = written_at xs place y e

pub told_at : (xs : List Posting) (place : ℕ) (x : Posting) → slice_get xs place ≡ Some x → get_or (map value_of xs) place None ≡ value_of x
told_at xs place x e = get_or-map value_of xs place x None (slice_get_within xs place x e) ∙ ap value_of (get_or_from_slice_get xs place x x e)

pub taken_at : (xs : List Posting) (place : ℕ) → IsSome (get_or (map value_of xs) place None) → (x : Posting) × (slice_get xs place ≡ Some x) × (x.object ≢ no_number) × (get_or (map value_of xs) place None ≡ Some x)
taken_at xs place present = by_slot (get_or (map value_of xs) place None) refl present
  where
    by_slot : (o : Option Posting) → get_or (map value_of xs) place None ≡ o → IsSome o → (x : Posting) × (slice_get xs place ≡ Some x) × (x.object ≢ no_number) × (get_or (map value_of xs) place None ≡ Some x)
    by_slot None e some = absurd (true≢false (sym some))
    by_slot (Some x) e some = let is = written_at xs place x e in (x, is.0, is.1, e)

-- ---- the list of free places

-- a first place begins one list at most
pub one_count : (xs : List Posting) (m n : ℕ) (first : Option ℕ) → IsFreeList xs m first → IsFreeList xs n first → m ≡ n
one_count xs zero zero first p q = refl
one_count xs zero (suc n) first p (b, y, e, at, free, rest) = absurd (cc)
one_count xs (suc m) zero first (a, x, e, at, free, rest) q = absurd (cc)
one_count xs (suc m) (suc n) first (a, x, e, at, free, rest) (b, y, f, there, free_too, more) =
    let same : a ≡ b = cc in
    let one : slice_get xs a ≡ Some y = ap (slice_get xs) same ∙ there in
    let postings : y ≡ x = cc in
    ap suc (one_count xs m n x.of_object.next rest (subst (λ (z : Posting). IsFreeList xs n z.of_object.next) postings more))

-- a write in a place that isn't in the list keeps it
pub free_set : (xs : List Posting) (place : ℕ) (z : Posting) (n : ℕ) (first : Option ℕ) → ((m : ℕ) → m < n → IsFreeList xs (suc m) (Some place) → ⊥) → IsFreeList xs n first → IsFreeList (set xs place z) n first
free_set xs place z zero first off p = p
free_set xs place z (suc n) first off (a, x, e, at, free, rest) =
    let other : a ≢ place = λ same. off n (omega arith) (a, x, ap Some (sym same), at, free, rest) in
    (a, x, e, slice_get-set_other xs place a z other ∙ at, free, free_set xs place z n x.of_object.next (λ m below. off m (omega arith)) rest)

-- a taken place is in no such list
pub taken_is_off : (xs : List Posting) (place : ℕ) (x : Posting) → slice_get xs place ≡ Some x → x.object ≢ no_number → (m : ℕ) → IsFreeList xs (suc m) (Some place) → ⊥
taken_is_off xs place x at taken m (a, y, e, there, free, rest) =
    let same : place ≡ a = cc in
    let one : slice_get xs place ≡ Some y = ap (slice_get xs) same ∙ there in
    let postings : x ≡ y = cc in
    taken (ap (λ (z : Posting). z.object) postings ∙ free)

pub count_set : (xs : List Posting) (place : ℕ) (old new : Posting) → slice_get xs place ≡ Some old → count_by is_some (map value_of (set xs place new)) + one_of (value_of old) ≡ count_by is_some (map value_of xs) + one_of (value_of new)
count_set xs place old new found =
    let within = slice_get_within xs place old found in
    let counted = sum_by-set (λ (o : Option Posting). cond (is_some o) 1 0) (map value_of xs) place (value_of new) None (omega (arith, length-map xs value_of)) in
    rw (map-set value_of xs place new, ← told_at xs place old found) counted

-- ---- changes

pub stored_rewrite : (xs : List Posting) (taken : ℕ) (free : Option ℕ) (place : ℕ) (old new : Posting) → IsStored xs taken free → slice_get xs place ≡ Some old → old.object ≢ no_number → new.object ≢ no_number → IsStored (set xs place new) taken free
stored_rewrite xs taken free place old new stored found was is =
    record {
      counted = omega (arith, stored.counted, count_set xs place old new found, ap one_of (value_taken old was), ap one_of (value_taken new is));
      vacant = stored.vacant;
      total = omega (arith, stored.total, length-set xs place new);
      linked = free_set xs place new stored.vacant free (λ m below. taken_is_off xs place old found was m) stored.linked;
      numbered = omega (arith, stored.numbered, length-set xs place new);
    }

pub stored_remove : (xs : List Posting) (taken : ℕ) (free : Option ℕ) (place : ℕ) (old new : Posting) → IsStored xs taken free → slice_get xs place ≡ Some old → old.object ≢ no_number → new.object ≡ no_number → new.of_object.next ≡ free → IsStored (set xs place new) (taken - 1) (Some place)
stored_remove xs taken free place old new stored found was is next =
    record {
      counted = omega (arith, stored.counted, count_set xs place old new found, ap one_of (value_taken old was), ap one_of (value_free new is));
      vacant = suc stored.vacant;
      total = omega (arith, stored.total, stored.counted, length-set xs place new, count_set xs place old new found, ap one_of (value_taken old was), ap one_of (value_free new is));
      linked = (place, new, refl, slice_get-set_same xs place new (slice_get_within xs place old found), is, free_set xs place new stored.vacant new.of_object.next (λ m below. taken_is_off xs place old found was m) (subst (λ z. IsFreeList xs stored.vacant z) (sym next) stored.linked));
      numbered = omega (arith, stored.numbered, length-set xs place new);
    }

pub record IsFirstFree (xs : List Posting) (taken : ℕ) (free : Option ℕ) (place : ℕ) : Type 0 where
  pub posting : Posting
  pub there : slice_get xs place ≡ Some posting
  pub is_free : posting.object ≡ no_number

pub first_free : (xs : List Posting) (taken : ℕ) (free : Option ℕ) (place : ℕ) → IsStored xs taken free → free ≡ Some place → IsFirstFree xs taken free place
first_free xs taken free place stored e = by_count stored.vacant stored.linked
  where
    by_count : (n : ℕ) → IsFreeList xs n free → IsFirstFree xs taken free place
    by_count zero none = absurd (cc)
    by_count (suc n) (a, x, f, at, is, rest) = let same : place ≡ a = cc in record { posting = x; there = ap (slice_get xs) same ∙ at; is_free = is }

-- the first free place is taken: the rest of the list is shorter, so it doesn't come back to it
pub stored_fill : (xs : List Posting) (taken : ℕ) (free : Option ℕ) (place : ℕ) (old new : Posting) → IsStored xs taken free → free ≡ Some place → slice_get xs place ≡ Some old → new.object ≢ no_number → IsStored (set xs place new) (taken + 1) old.of_object.next
stored_fill xs taken free place old new stored e found is = by_count stored.vacant stored.total (subst (λ z. IsFreeList xs stored.vacant z) e stored.linked)
  where
    by_count : (n : ℕ) → taken + n ≡ length xs → IsFreeList xs n (Some place) → IsStored (set xs place new) (taken + 1) old.of_object.next
    by_count zero total none = absurd (cc)
    by_count (suc n) total (a, x, f, at, was, rest) =
        let same : place ≡ a = cc in
        let one : slice_get xs place ≡ Some x = ap (slice_get xs) same ∙ at in
        let postings : x ≡ old = cc in
        let free_old : old.object ≡ no_number = ap (λ (z : Posting). z.object) (sym postings) ∙ was in
        let off : (m : ℕ) → m < n → IsFreeList xs (suc m) (Some place) → ⊥ = λ m below p. omega (arith, one_count xs (suc m) (suc n) (Some place) p (a, x, f, at, was, rest)) in
        record {
          counted = omega (arith, stored.counted, count_set xs place old new found, ap one_of (value_free old free_old), ap one_of (value_taken new is));
          vacant = n;
          total = omega (arith, length-set xs place new);
          linked = free_set xs place new n old.of_object.next off (subst (λ (z : Posting). IsFreeList xs n z.of_object.next) postings rest);
          numbered = omega (arith, stored.numbered, length-set xs place new);
        }

-- with no free place all are taken
pub all_taken : (xs : List Posting) (taken : ℕ) (free : Option ℕ) → IsStored xs taken free → free ≡ None → taken ≡ length xs
all_taken xs taken free stored e = by_count stored.vacant stored.total stored.linked
  where
    by_count : (n : ℕ) → taken + n ≡ length xs → IsFreeList xs n free → taken ≡ length xs
    by_count zero total none = omega arith
    by_count (suc n) total (a, x, f, at, is, rest) = absurd (cc)

pub stored_push : (xs : List Posting) (taken : ℕ) (free : Option ℕ) (new : Posting) → IsStored xs taken free → free ≡ None → new.object ≢ no_number → length xs < no_number → IsStored (xs ++ new ∷ []) (taken + 1) free
stored_push xs taken free new stored e is within =
    let full = all_taken xs taken free stored e in
    let longer = length_push xs new in
    record {
      counted = rw (map_push value_of xs new, sum_by_push (λ (o : Option Posting). cond (is_some o) 1 0) (map value_of xs) (value_of new), value_taken new is) (ap (λ n. n + 1) stored.counted);
      vacant = 0;
      total = omega arith;
      linked = e;
      numbered = omega arith;
    }

-- ---- what contracts see of a change

pub rewritten : (xs : List Posting) (capacity place : ℕ) (x : Posting) → x.object ≢ no_number → places_of (set xs place x) capacity ≡ with_value (places_of xs capacity) place x
rewritten xs capacity place x is = ap (λ z. record { slots = z; capacity = min capacity no_number }) (map-set value_of xs place x ∙ ap (set (map value_of xs) place) (value_taken x is))

-- a posting was put in
pub record Puts (old new : Places) (place : ℕ) (x : Posting) : Type 0 where
  pub was_free : get old place ≡ None
  pub updates : Updates old new place (Some x)
  pub count : taken_count new ≡ taken_count old + 1

pub fills : (xs : List Posting) (taken : ℕ) (free : Option ℕ) (capacity place : ℕ) (old new : Posting) → IsStored xs taken free → free ≡ Some place → slice_get xs place ≡ Some old → new.object ≢ no_number → Puts (places_of xs capacity) (places_of (set xs place new) capacity) place new
fills xs taken free capacity place old new stored e found is =
    let first = first_free xs taken free place stored e in
    let one : first.posting ≡ old = (let there = first.there in cc) in
    let none = value_free old (ap (λ (z : Posting). z.object) (sym one) ∙ first.is_free) in
    record {
      was_free = told_at xs place old found ∙ none;
      updates = updates_set (places_of xs capacity) (places_of (set xs place new) capacity) place (Some new) (omega (arith, slice_get_within xs place old found, length-map xs value_of)) (map-set value_of xs place new ∙ ap (set (map value_of xs) place) (value_taken new is));
      count = omega (arith, count_set xs place old new found, ap one_of none, ap one_of (value_taken new is));
    }

pub pushes : (xs : List Posting) (capacity : ℕ) (new : Posting) → new.object ≢ no_number → Puts (places_of xs capacity) (places_of (xs ++ new ∷ []) capacity) (length xs) new
pushes xs capacity new is =
    let slots : map value_of (xs ++ new ∷ []) ≡ map value_of xs ++ Some new ∷ [] = map_push value_of xs new ∙ ap (λ z. map value_of xs ++ z ∷ []) (value_taken new is) in
    record {
      was_free = get_or_past (map value_of xs) (length xs) None (omega (arith, length-map xs value_of));
      updates = record {
        changed = ap (λ z. get_or z (length xs) None) slots ∙ ap (λ n. get_or (map value_of xs ++ Some new ∷ []) n None) (sym (length-map xs value_of)) ∙ last_read (map value_of xs) (Some new);
        others = λ other differs. ap (λ z. get_or z other None) slots ∙ other_read (map value_of xs) (Some new) other (λ e. differs (e ∙ length-map xs value_of));
      };
      count = ap (λ z. count_by is_some z) slots ∙ sum_by_push one_of (map value_of xs) (Some new);
    }
  where
    last_read : (ys : List (Option Posting)) (y : Option Posting) → get_or (ys ++ y ∷ []) (length ys) None ≡ y
    last_read [] y = refl
    last_read (z ∷ ys) y = last_read ys y

    other_read : (ys : List (Option Posting)) (y : Option Posting) (k : ℕ) → k ≢ length ys → get_or (ys ++ y ∷ []) k None ≡ get_or ys k None
    other_read [] y zero differs = absurd (differs refl)
    other_read [] y (suc k) differs = refl
    other_read (z ∷ ys) y zero differs = refl
    other_read (z ∷ ys) y (suc k) differs = other_read ys y k (λ e. differs (ap suc e))

-- a posting was taken out
pub record Frees (old new : Places) (place : ℕ) : Type 0 where
  pub updates : Updates old new place None
  pub count : taken_count new + 1 ≡ taken_count old

pub frees : (xs : List Posting) (capacity place : ℕ) (old new : Posting) → slice_get xs place ≡ Some old → old.object ≢ no_number → new.object ≡ no_number → Frees (places_of xs capacity) (places_of (set xs place new) capacity) place
frees xs capacity place old new found was is =
    record {
      updates = updates_set (places_of xs capacity) (places_of (set xs place new) capacity) place None (omega (arith, slice_get_within xs place old found, length-map xs value_of)) (map-set value_of xs place new ∙ ap (set (map value_of xs) place) (value_free new is));
      count = omega (arith, count_set xs place old new found, ap one_of (value_taken old was), ap one_of (value_free new is));
    }
