-- Texts under numbers: more numbers, a text in and a text out.
use Rattle.std.proofs.Common.{◌≡◌, ◌≢◌, ℕ, zero, suc, ◌+◌, ◌<◌, ◌≤◌, inl, inr, List, [], ◌∷◌, ◌++◌, length, set, Option, Some, None, is_some, IsSome, sum_by, refl, sym, ap, subst, ◌∙◌, arith}
use Rattle.std.proofs.lemmas.Bool.{cases_eq, cases_lt}
use Rattle.std.proofs.lemmas.List.{length-append, length-set, get_or-set_same, get_or-set_other, get_or_past}
use Rattle.std.proofs.lemmas.List.Sums.{sum_by-cons}
use Rattle.ordered_keys.specs.Keys.{Grows, Inserts, Keys, Removes, key_in}
use Rattle.ordered_keys.specs.Numbers.{Among, AreApart}
use Rattle.ordered_keys.proofs.NumberLemmas.{Among-left, Among-right, Among-split, apart_join, apart_pop}
use Rattle.search_index.specs.Place.{no_number}
use Rattle.search_index.specs.NumberedTexts.{AreNumbered, one_there}
use Rattle.search_index.proofs.UseLemmas.{sum_changed, sum_holds}
use Rattle.search_index.proofs.WordLemmas.{never_none, some_of, within}

pub none_numbered : (slots : List (Option (List ℕ))) (free : List ℕ) (capacity : ℕ) → slots ≡ [] → free ≡ [] → AreNumbered slots free capacity
none_numbered slots free capacity one two = subst (λ (z : List (Option (List ℕ))). AreNumbered z free capacity) (sym one) (subst (λ z. AreNumbered [] z capacity) (sym two) (record {
  none = λ i a. absurd a;
  apart = tt;
  all = refl;
  holds = omega arith;
  few = omega arith;
}))

-- ---- more numbers

key_more : (slots : List (Option (List ℕ))) (i : ℕ) → key_in (slots ++ None ∷ []) i ≡ key_in slots i
key_more [] zero = refl
key_more [] (suc i) = refl
key_more (x ∷ slots) zero = refl
key_more (x ∷ slots) (suc i) = key_more slots i

sum_more : (slots : List (Option (List ℕ))) → sum_by one_there (slots ++ None ∷ []) ≡ sum_by one_there slots
sum_more [] = refl
sum_more (x ∷ slots) = sum_by-cons one_there x (slots ++ None ∷ []) ∙ ap (λ n. one_there x + n) (sum_more slots) ∙ sym (sum_by-cons one_there x slots)

-- numbers so far, and the memory for all
pub record Growing (old slots : List (Option (List ℕ))) (free : List ℕ) (was slots_room free_room number size : ℕ) : Type 0 where
  pub numbered : AreNumbered slots free free_room
  pub same : (i : ℕ) → key_in slots i ≡ key_in old i
  pub length_is : length slots ≡ number
  pub upto : number ≤ size
  pub more : length free + length old ≡ was + length slots
  pub slots_hold : size ≤ slots_room
  pub free_hold : size ≤ free_room
  pub small : size < no_number

growing_more : (old slots : List (Option (List ℕ))) (free : List ℕ) (was slots_room free_room number size : ℕ) → Growing old slots free was slots_room free_room number size → number < size → Growing old (slots ++ None ∷ []) (free ++ number ∷ []) was slots_room free_room (number + 1) size
growing_more old slots free was slots_room free_room number size g lt =
    let longer = length-append slots (None ∷ []) in
    let freer = length-append free (number ∷ []) in
    let length_is = g.length_is in
    let numbered = g.numbered in
    let none : (i : ℕ) → Among (free ++ number ∷ []) i → (i < length (slots ++ None ∷ [])) × (key_in (slots ++ None ∷ []) i ≡ None) = λ i a. elim (Among-split free (number ∷ []) i a) [
      | inl b ↦ let was_none = numbered.none i b in (omega (arith, was_none.0, longer), key_more slots i ∙ was_none.1)
      | inr (inl e) ↦ (omega (arith, e, longer, length_is), key_more slots i ∙ get_or_past slots i None (omega (arith, e, length_is)))
      | inr (inr b) ↦ absurd b
    ] in
    let all = numbered.all in
    let sum = sum_more slots in
    let slots_hold = g.slots_hold in
    let free_hold = g.free_hold in
    let small = g.small in
    let more = g.more in
    record {
      numbered = record {
        none = none;
        apart = apart_join free (number ∷ []) numbered.apart (λ a. a, tt) (λ i a b. elim b [ inl e ↦ (let was_none = numbered.none i a in absurd (omega (arith, was_none.0, e, length_is))) | inr c ↦ absurd c ]);
        all = omega (arith, all, sum, longer, freer);
        holds = omega (arith, longer, length_is, free_hold, lt);
        few = omega (arith, longer, length_is, small, lt);
      };
      same = λ i. key_more slots i ∙ g.same i;
      length_is = omega (arith, longer, length_is);
      upto = omega (arith, lt);
      more = omega (arith, more, longer, freer);
      slots_hold = slots_hold;
      free_hold = free_hold;
      small = small;
    }

pub growing_step : (old slots now : List (Option (List ℕ))) (free new : List ℕ) (was slots_room free_room slots_now free_now number size : ℕ) → Growing old slots free was slots_room free_room number size → number < size → now ≡ slots ++ None ∷ [] → new ≡ free ++ number ∷ [] → slots_now ≡ slots_room → free_now ≡ free_room
    → Growing old now new was slots_now free_now (number + 1) size
growing_step old slots now free new was slots_room free_room slots_now free_now number size g lt one two three four =
    subst (λ (a : List (Option (List ℕ))). Growing old a new was slots_now free_now (number + 1) size) (sym one)
    (subst (λ b. Growing old (slots ++ None ∷ []) b was slots_now free_now (number + 1) size) (sym two)
    (subst (λ c. Growing old (slots ++ None ∷ []) (free ++ number ∷ []) was c free_now (number + 1) size) (sym three)
    (subst (λ d. Growing old (slots ++ None ∷ []) (free ++ number ∷ []) was slots_room d (number + 1) size) (sym four)
    (growing_more old slots free was slots_room free_room number size g lt))))

-- a loop that adds numbers begins
pub growing : (slots : List (Option (List ℕ))) (free : List ℕ) (was_room slots_room free_room number size : ℕ) → AreNumbered slots free was_room → length slots ≡ number → number ≤ size → size ≤ slots_room → size ≤ free_room → size < no_number → Growing slots slots free (length free) slots_room free_room number size
growing slots free was_room slots_room free_room number size numbered is upto one two small = record {
  numbered = record { none = numbered.none; apart = numbered.apart; all = numbered.all; holds = omega (arith, is, upto, two); few = numbered.few };
  same = λ i. refl;
  length_is = is;
  upto = upto;
  more = refl;
  slots_hold = one;
  free_hold = two;
  small = small;
}

pub all_grown : (old slots : List (Option (List ℕ))) (free : List ℕ) (was slots_room free_room number size more : ℕ) → Growing old slots free was slots_room free_room number size → number ≡ length old + more → Grows (record { slots = old; room = was }) (record { slots = slots; room = length free }) more
all_grown old slots free was slots_room free_room number size more g is =
    let length_is = g.length_is in
    let all = g.more in
    record { same = g.same; room = omega (arith, all, length_is, is); size = length_is ∙ is }

-- ---- a text in, and a text out

-- one number has something else
record IsSetTo (old new : List (Option (List ℕ))) (id : ℕ) (now : Option (List ℕ)) : Type 0 where
  here : key_in new id ≡ now
  others : (i : ℕ) → i ≢ id → key_in new i ≡ key_in old i
  size : length new ≡ length old
  sum : sum_by one_there new + one_there (key_in old id) ≡ sum_by one_there old + one_there now

is_set : (slots : List (Option (List ℕ))) (id : ℕ) (now : Option (List ℕ)) → id < length slots → IsSetTo slots (set slots id now) id now
is_set slots id now inside =
    let here : key_in (set slots id now) id ≡ now = get_or-set_same slots id now None inside in
    let others : (i : ℕ) → i ≢ id → key_in (set slots id now) i ≡ key_in slots i = λ i differs. get_or-set_other slots id i now None differs in
    let size = length-set slots id now in
    record {
      here = here;
      others = others;
      size = size;
      sum = sum_changed one_there refl slots (set slots id now) id size inside others ∙ ap (λ o. sum_by one_there slots + one_there o) here;
    }

pub record IsIn (slots : List (Option (List ℕ))) (free left : List ℕ) (capacity : ℕ) (text : List ℕ) (id : ℕ) : Type 0 where
  pub within : id < length slots
  pub numbered : AreNumbered (set slots id (Some text)) left capacity
  pub inserts : Inserts (record { slots = slots; room = length free }) (record { slots = set slots id (Some text); room = length left }) text id

pub put_in : (slots : List (Option (List ℕ))) (free left : List ℕ) (capacity : ℕ) (text : List ℕ) (id : ℕ) → AreNumbered slots free capacity → free ≡ left ++ id ∷ [] → IsIn slots free left capacity text id
put_in slots free left capacity text id numbered is =
    let apart = apart_pop left id (subst AreApart is numbered.apart) in
    let was = numbered.none id (subst (λ z. Among z id) (sym is) (Among-right left (id ∷ []) id (inl refl))) in
    let s = is_set slots id (Some text) was.0 in
    let count = ap length is ∙ length-append left (id ∷ []) in
    let empty : one_there (key_in slots id) ≡ 0 = ap one_there was.1 in
    let sum = s.sum in
    let size = s.size in
    let all = numbered.all in
    let holds = numbered.holds in
    let few = numbered.few in
    record {
      within = was.0;
      numbered = record {
        none = λ i a.
            let before = numbered.none i (subst (λ z. Among z i) (sym is) (Among-left left (id ∷ []) i a)) in
            (omega (arith, before.0, size), s.others i (λ e. apart.1 (subst (λ z. Among left z) e a)) ∙ before.1);
        apart = apart.0;
        all = omega (arith, all, sum, size, count, empty);
        holds = omega (arith, holds, size);
        few = omega (arith, few, size);
      };
      inserts = record { free = was.1; put = s.here; others = s.others; less = omega (arith, count); size = size };
    }

pub record IsOut (slots : List (Option (List ℕ))) (free : List ℕ) (capacity id : ℕ) : Type 0 where
  pub within : id < length slots
  pub small : id < no_number
  pub fits : length free < capacity
  pub numbered : AreNumbered (set slots id None) (free ++ id ∷ []) capacity
  pub removes : Removes (record { slots = slots; room = length free }) (record { slots = set slots id None; room = length (free ++ id ∷ []) }) id

pub taken_out : (slots : List (Option (List ℕ))) (free : List ℕ) (capacity id : ℕ) → AreNumbered slots free capacity → IsSome (key_in slots id) → IsOut slots free capacity id
taken_out slots free capacity id numbered some =
    let inside = within slots id some in
    let text = some_of (key_in slots id) some in
    let s = is_set slots id None inside in
    let count = length-append free (id ∷ []) in
    let full : one_there (key_in slots id) ≡ 1 = ap one_there text.1 in
    let one = sum_holds one_there refl slots id in
    let sum = s.sum in
    let size = s.size in
    let all = numbered.all in
    let holds = numbered.holds in
    let few = numbered.few in
    let not_free : (i : ℕ) → Among free i → i ≢ id = λ i a e. let was = numbered.none i a in never_none (key_in slots id) (ap (key_in slots) (sym e) ∙ was.1) some in
    record {
      within = inside;
      small = omega (arith, inside, few);
      fits = omega (arith, all, one, full, holds);
      numbered = record {
        none = λ i a. elim (Among-split free (id ∷ []) i a) [
          | inl b ↦ let was = numbered.none i b in (omega (arith, was.0, size), s.others i (not_free i b) ∙ was.1)
          | inr (inl e) ↦ (omega (arith, e, inside, size), ap (key_in (set slots id None)) (sym e) ∙ s.here)
          | inr (inr b) ↦ absurd b
        ];
        apart = apart_join free (id ∷ []) numbered.apart (λ a. a, tt) (λ i a b. elim b [ inl e ↦ absurd (not_free i a (sym e)) | inr c ↦ absurd c ]);
        all = omega (arith, all, sum, size, count, full);
        holds = omega (arith, holds, size);
        few = omega (arith, few, size);
      };
      removes = record { gone = s.here; others = s.others; more = omega (arith, count); size = size };
    }
