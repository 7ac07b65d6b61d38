-- Between which terms those with a value that is wanted lie.
use Rattle.std.proofs.Common.{◌≡◌, ◌≢◌, ◌∙◌, ◌&&◌, ◌+◌, arith, inl, inr, ℕ, Bool, true, false, List, [], ◌∷◌, ◌++◌, Option, Some, None, Result, Ok, Err, IfOk, if◌then◌else◌, eqb, eqb-true, refl, sym, ap}
use Rattle.std.proofs.lemmas.Bool.{false≢true}
use Rattle.std.proofs.lemmas.List.{append-nil}
use Rattle.std.specs.declared.cmp.Ordering.TheVariants.{Less, Equal, Greater}
use Rattle.std.specs.Ordering.{nat_cmp, ordering_then, ordering_reverse}
use Rattle.std.specs.Cmp.{tied_itself}
use Rattle.std.specs.Cmp.Lexicographic.{slice_cmp, nat_list_cmp_total}
use Rattle.query_text.specs.declared.term.Wanted.{Wanted}
use Rattle.query_text.specs.declared.term.Wanted.TheVariants as wanted
use Rattle.query_text.specs.declared.term.Range.{Range}
use Rattle.query_text.specs.declared.term.Sign.{Sign}
use Rattle.query_text.specs.declared.term.Sign.TheVariants.{Any, One, Byte}
use Rattle.search_query.specs.Pair.{Pair, pair, pair_cmp}
use Rattle.search_query.specs.Matching.{Fits, IsWanted, is_above, is_before, is_below, one_off}
use Rattle.search_index.specs.declared.bounds.Bounds.{Bounds}
use Rattle.search_index.specs.Bounds.{HoldsFront, IsBounded, front_of, is_plain, low_of}
use Rattle.search_index.proofs.Neighbours.{same_is_equal, then_right}

same_text : (t : List ℕ) → slice_cmp nat_cmp t t ≡ Equal
same_text t = tied_itself nat_list_cmp_total t

longer : (t : List ℕ) → slice_cmp nat_cmp t (t ++ 0 ∷ []) ≡ Less
longer [] = refl
longer (x ∷ t) = then_right (nat_cmp x x) (slice_cmp nat_cmp t (t ++ 0 ∷ [])) (same_is_equal x) ∙ longer t

not_below_front : (front rest : List ℕ) → slice_cmp nat_cmp (front ++ rest) front ≢ Less
not_below_front [] [] e = absurd (cc)
not_below_front [] (x ∷ rest) e = absurd (cc)
not_below_front (x ∷ front) rest e = not_below_front front rest (sym (then_right (nat_cmp x x) (slice_cmp nat_cmp (front ++ rest) front) (same_is_equal x)) ∙ e)

at_most_longer : (v h : List ℕ) → slice_cmp nat_cmp v h ≢ Greater → slice_cmp nat_cmp v (h ++ 0 ∷ []) ≡ Less
at_most_longer [] [] out = refl
at_most_longer [] (y ∷ h) out = refl
at_most_longer (x ∷ v) [] out = absurd (out refl)
at_most_longer (x ∷ v) (y ∷ h) out =
    elim (nat_cmp x y) as (λ o. (ordering_then o (slice_cmp nat_cmp v h) ≢ Greater) → ordering_then o (slice_cmp nat_cmp v (h ++ 0 ∷ [])) ≡ Less) [
      | Less ↦ λ k. refl
      | Equal ↦ λ k. at_most_longer v h k
      | Greater ↦ λ k. absurd (k refl)
    ] out

with_field : (p : Pair) (field value : List ℕ) → p.field ≡ field → pair_cmp p (pair field value) ≡ slice_cmp nat_cmp p.value value
with_field p field value e = then_right (slice_cmp nat_cmp p.field field) (slice_cmp nat_cmp p.value value) (ap (λ z. slice_cmp nat_cmp z field) e ∙ same_text field)

below_field : (p : Pair) (field value : List ℕ) → p.field ≡ field → pair_cmp p (pair (field ++ 0 ∷ []) value) ≡ Less
below_field p field value e = ap (λ o. ordering_then o (slice_cmp nat_cmp p.value value)) (ap (λ z. slice_cmp nat_cmp z (field ++ 0 ∷ [])) e ∙ longer field)

-- from a value on, to one, or to the end of the field
pub bounded_to : (field low high : List ℕ) (w : Wanted) (b : Bounds) → b.low.items ≡ low → b.past.items ≡ field → b.high.items ≡ high ++ 0 ∷ [] → ((v : List ℕ) → IsWanted w v → (slice_cmp nat_cmp v low ≢ Less) × (slice_cmp nat_cmp v high ≢ Greater)) → IsBounded field w b
bounded_to field low high w b is_low is_past is_high within p e met =
    let at = within p.value met in (
      λ less. at.0 (sym (with_field p field low e) ∙ ap (λ z. pair_cmp p (pair field z)) (sym is_low) ∙ less),
      ap (λ z. pair_cmp p (pair z b.high.items)) is_past ∙ ap (λ z. pair_cmp p (pair field z)) is_high ∙ with_field p field (high ++ 0 ∷ []) e ∙ at_most_longer p.value high at.1,
    )

pub bounded_from : (field low : List ℕ) (w : Wanted) (b : Bounds) → b.low.items ≡ low → b.past.items ≡ field ++ 0 ∷ [] → ((v : List ℕ) → IsWanted w v → slice_cmp nat_cmp v low ≢ Less) → IsBounded field w b
bounded_from field low w b is_low is_past within p e met = (
  λ less. within p.value met (sym (with_field p field low e) ∙ ap (λ z. pair_cmp p (pair field z)) (sym is_low) ∙ less),
  ap (λ z. pair_cmp p (pair z b.high.items)) is_past ∙ below_field p field b.high.items e,
)

equal_within : (v t : List ℕ) → v ≡ t → (slice_cmp nat_cmp v t ≢ Less) × (slice_cmp nat_cmp v t ≢ Greater)
equal_within v t e =
    let same : slice_cmp nat_cmp v t ≡ Equal = ap (λ z. slice_cmp nat_cmp z t) e ∙ same_text t in
    (λ l. absurd (cc), λ g. absurd (cc))

pub bounded_text : (field t : List ℕ) (b : Bounds) → b.low.items ≡ t → b.past.items ≡ field → b.high.items ≡ t ++ 0 ∷ [] → IsBounded field (wanted.Equal t) b
bounded_text field t b one two three = bounded_to field t t (wanted.Equal t) b one two three (λ v e. equal_within v t e)

byte_off : (c b : ℕ) (text back : List ℕ) → one_off (Byte c) (b ∷ text) ≡ Some back → (b ≡ c) × (text ≡ back)
byte_off c b text back e = byte_by (eqb b c) refl e
  where
    byte_by : (t : Bool) → eqb b c ≡ t → (if t then Some text else None) ≡ Some back → (b ≡ c) × (text ≡ back)
    byte_by true same e = (eqb-true b c same, (let f : text ≡ back = cc in f))
    byte_by false other e = absurd (cc)

-- what fits begins with the bytes with which the signs begin
front_fits : (signs : List Sign) (v : List ℕ) → Fits signs v → (rest : List ℕ) × (v ≡ front_of signs ++ rest) × (is_plain signs ≡ true → rest ≡ [])
front_fits [] v e = ([], e, λ h. refl)
front_fits (Any ∷ signs) v fits = (v, refl, λ h. absurd (false≢true h))
front_fits (One ∷ signs) v fits = (v, refl, λ h. absurd (false≢true h))
front_fits (Byte c ∷ signs) [] (back, e, fits) = absurd (cc)
front_fits (Byte c ∷ signs) (b ∷ text) (back, e, fits) =
    let off = byte_off c b text back e in
    let later = front_fits signs back fits in
    (later.0, ap (λ z. z ∷ text) off.0 ∙ ap (λ z. c ∷ z) (off.1 ∙ later.1), later.2)

pub bounded_plain : (field : List ℕ) (signs : List Sign) (b : Bounds) → is_plain signs ≡ true → b.low.items ≡ front_of signs → b.past.items ≡ field → b.high.items ≡ front_of signs ++ 0 ∷ [] → IsBounded field (wanted.Like signs) b
bounded_plain field signs b plain one two three = bounded_to field (front_of signs) (front_of signs) (wanted.Like signs) b one two three
    (λ v fits. let t = front_fits signs v fits in equal_within v (front_of signs) (t.1 ∙ ap (λ z. front_of signs ++ z) (t.2 plain) ∙ append-nil (front_of signs)))

pub bounded_front : (field : List ℕ) (signs : List Sign) (b : Bounds) → b.low.items ≡ front_of signs → b.past.items ≡ field ++ 0 ∷ [] → IsBounded field (wanted.Like signs) b
bounded_front field signs b one two = bounded_from field (front_of signs) (wanted.Like signs) b one two
    (λ v fits less. let t = front_fits signs v fits in not_below_front (front_of signs) t.0 (sym (ap (λ z. slice_cmp nat_cmp z (front_of signs)) t.1) ∙ less))

next_above : (n : ℕ) → nat_cmp n (n + 1) ≡ Less
next_above n = grind arith

-- what begins with a text is below it with its last byte one greater
below_raised : (rest back : List ℕ) (last : ℕ) → slice_cmp nat_cmp ((rest ++ last ∷ []) ++ back) (rest ++ (last + 1) ∷ []) ≡ Less
below_raised [] back last = ap (λ o. ordering_then o (slice_cmp nat_cmp back [])) (next_above last)
below_raised (x ∷ rest) back last = then_right (nat_cmp x x) (slice_cmp nat_cmp ((rest ++ last ∷ []) ++ back) (rest ++ (last + 1) ∷ [])) (same_is_equal x) ∙ below_raised rest back last

pub bounded_begun : (field : List ℕ) (signs : List Sign) (b : Bounds) → HoldsFront field (front_of signs) b → IsBounded field (wanted.Like signs) b
bounded_begun field signs b (one, inl past) = bounded_front field signs b one past
bounded_begun field signs b (one, inr (past, (rest, last, front, high))) = λ p e fits.
    let t = front_fits signs p.value fits in
    let value : p.value ≡ (rest ++ last ∷ []) ++ t.0 = t.1 ∙ ap (λ z. z ++ t.0) front in (
      λ less. not_below_front (front_of signs) t.0 (sym (ap (λ z. slice_cmp nat_cmp z (front_of signs)) t.1) ∙ sym (with_field p field (front_of signs) e) ∙ ap (λ z. pair_cmp p (pair field z)) (sym one) ∙ less),
      ap (λ z. pair_cmp p (pair z b.high.items)) past ∙ ap (λ z. pair_cmp p (pair field z)) high ∙ with_field p field (rest ++ (last + 1) ∷ []) e
          ∙ ap (λ z. slice_cmp nat_cmp z (rest ++ (last + 1) ∷ [])) value ∙ below_raised rest t.0 last,
    )

both_true : (a b : Bool) → (a && b) ≡ true → (a ≡ true) × (b ≡ true)
both_true true true e = (refl, refl)
both_true true false e = absurd (false≢true e)
both_true false b e = absurd (false≢true e)

turned_back : (l v : List ℕ) (with_ends : Bool) → is_before with_ends (slice_cmp nat_cmp l v) ≡ true → slice_cmp nat_cmp v l ≢ Less
turned_back l v with_ends e less =
    let greater : slice_cmp nat_cmp l v ≡ Greater = nat_list_cmp_total.antisymm l v ∙ ap ordering_reverse less in
    absurd (false≢true (ap (is_before with_ends) (sym greater) ∙ e))

above_low : (with_ends : Bool) (low : Option (List ℕ)) (v : List ℕ) → is_above with_ends low v ≡ true → slice_cmp nat_cmp v (low_of low) ≢ Less
above_low with_ends None v e = not_below_front [] v
above_low with_ends (Some l) v e = turned_back l v with_ends e

below_high : (with_ends : Bool) (h v : List ℕ) → is_below with_ends (Some h) v ≡ true → slice_cmp nat_cmp v h ≢ Greater
below_high with_ends h v e greater = absurd (false≢true (ap (is_before with_ends) (sym greater) ∙ e))

pub bounded_range : (field high : List ℕ) (range : Range) (b : Bounds) → range.high ≡ Some high → b.low.items ≡ low_of range.low → b.past.items ≡ field → b.high.items ≡ high ++ 0 ∷ [] → IsBounded field (wanted.Between range) b
bounded_range field high range b is one two three = bounded_to field (low_of range.low) high (wanted.Between range) b one two three
    (λ v met. let both = both_true (is_above range.with_ends range.low v) (is_below range.with_ends range.high v) met in
    (above_low range.with_ends range.low v both.0, below_high range.with_ends high v (ap (λ o. is_below range.with_ends o v) (sym is) ∙ both.1)))

pub bounded_open : (field : List ℕ) (range : Range) (b : Bounds) → b.low.items ≡ low_of range.low → b.past.items ≡ field ++ 0 ∷ [] → IsBounded field (wanted.Between range) b
bounded_open field range b one two = bounded_from field (low_of range.low) (wanted.Between range) b one two
    (λ v met. above_low range.with_ends range.low v (both_true (is_above range.with_ends range.low v) (is_below range.with_ends range.high v) met).0)

pub if_ok : {X E : Type 0} (P Q : X → Type 0) (r : Result X E) → ((x : X) → P x → Q x) → IfOk r P → IfOk r Q
if_ok P Q (Ok x) f h = f x h
if_ok P Q (Err e) f h = tt
