-- The steps as the calls take them, one behind the other.
use Rattle.std.proofs.Common.{◌≡◌, ◌≢◌, ℕ, ◌+◌, ◌%◌, ◌^◌, List, [], ◌∷◌, sym, ap, ◌∙◌, subst, true, false, Bool, Option, Some, None, eqb, ne_eqb, eq-eqb, IfSome}
use mathlib.Core.Option.{some, none, some-injective}
use mathlib.Core.Logic.{dite}
use native.Mathlib.Decide.{ℕ_discrete}
use lib.ListN.{get_elem?}
use Rattle.std.specs.Prelude.{if◌then◌else◌}
use Rattle.atomic_table.specs.Table.{Step, step, Allows, rest}
use Rattle.turn_book.specs.declared.views.View.{View}
use Rattle.turn_book.specs.declared.views.Stage.TheVariants.{Empty, Idle, Out}
use Rattle.turn_book.specs.Histories.{StartsWith, longer}
use Rattle.turn_book.specs.Views.{first_view, filling, started, noted, holding, seeing, going_out, advanced, joined}
use Rattle.turn_book.specs.Rule.{Kept}
use Rattle.turn_book.specs.Steps.{SeatOf, drew, looked, gave, learned_both}
use Rattle.turn_book.specs.Seats.{IsIdle, AtEnd, Drew, Waits, Called, Seeing, Looked, TookValue, AddsTo, ClosesSeat}
use Rattle.turn_book.proofs.HistoryLemmas.{starts_whole, starts_again}
use Rattle.turn_book.proofs.RuleLemmas.{some_in, None≢Some}
use Rattle.turn_book.proofs.StepLemmas.{advances}

module _ {S E O : Type 0} where
  -- the seat, as if it had never read that the tickets are at their end
  abbrev pub cleared : SeatOf S E O → SeatOf S E O
  cleared m = (noted false m.0, m.1)

  -- the first seat, once the value is in the slot
  pub first_seat : (o : O) (x : S) (made took put m : SeatOf S E O) → made ≡ (first_view o Empty, []) → took ≡ (filling made.0, (0, None) ∷ made.1) → put ≡ (took.0, (0, Some x) ∷ rest took.1) → m ≡ (started put.0, rest put.1) → m ≡ (first_view o Idle, [])
  first_seat o x made took put m is a b c =
      let start : SeatOf S E O → SeatOf S E O = λ z. (started z.0, rest z.1) in
      let all : SeatOf S E O → SeatOf S E O = λ z. (started (filling z.0), z.1) in
      c ∙ ap start b ∙ ap start a ∙ ap all is

  -- the tickets were read at their end
  pub read_end : (m l m' : SeatOf S E O) (n : ℕ) → n ≡ 18446744073709551615 → cleared l ≡ cleared m → m' ≡ (noted (eqb n 18446744073709551615) l.0, l.1) → AtEnd m m'
  read_end m l m' n is same e =
      let told : Bool → SeatOf S E O = λ b. (noted b l.0, l.1) in
      let marked : SeatOf S E O → SeatOf S E O = λ z. (noted true z.0, z.1) in
      e ∙ ap told (eq-eqb n 18446744073709551615 is) ∙ ap marked same

  -- the tickets were read below their end
  pub read_more : (m l m' : SeatOf S E O) (n : ℕ) → n ≢ 18446744073709551615 → cleared l ≡ cleared m → m' ≡ (noted (eqb n 18446744073709551615) l.0, l.1) → m' ≡ cleared m
  read_more m l m' n ne same e =
      let told : Bool → SeatOf S E O = λ b. (noted b l.0, l.1) in
      e ∙ ap told (ne_eqb n 18446744073709551615 ne) ∙ same

  module _ (stands : O → List E → S → Type 0) (opened : S → O) (key : S) where
    pub advances_as : (slots id : ℕ) (me : SeatOf S E O) (entry : Option E) (x : S) → me.0.stage ≡ Out → me.1 ≡ (0, Some x) ∷ [] → AddsTo stands me.0.opened me.0.seen entry x
        → Allows (Kept stands opened key) slots id me 1 (λ n. (n + 1) % 2 ^ 64) (gave entry (step slots 1 1 0 none) me)
    advances_as slots id me entry x out hand adds = subst (λ (t : Option E). Allows (Kept stands opened key) slots id me 1 (λ n. (n + 1) % 2 ^ 64) (gave t (step slots 1 1 0 none) me)) (sym adds.1) (advances stands opened key slots id me adds.0 x out hand adds.2)

  pub gave_tells : (entry : Option E) (st : Step (Option S)) (v : View E O) (x : Option S) (n : ℕ) (m m' : SeatOf S E O) → m ≡ (v, (0, x) ∷ []) → gave entry st m n m' → IfSome entry (λ e. m' ≡ (advanced e v, []))
  gave_tells None st v x n m m' is g = tt
  gave_tells (Some e) st v x n m m' is g = g ∙ ap (λ (z : SeatOf S E O). (advanced e z.0, rest z.1)) is

module _ {S E O : Type 0} (stands : O → List E → S → Type 0) where
  pub look_tells : (slots t n : ℕ) (m m' : SeatOf S E O) → Waits t m → looked stands (step slots 1 0 0 none) m n m' → Looked stands t m m' (eqb n t)
  look_tells slots t n m m' w l = dite (ℕ_discrete n t)
      (λ e. subst (Looked stands t m m') (sym (eq-eqb n t e)) (let y = l.3.0 (w.0 ∙ ap Some (sym e)) in (l.0, l.1, l.2 ∙ e, y.0, y.1 ∙ ap (λ (c : List (ℕ × Option S)). (going_out l.0 m.0, (0, Some y.0) ∷ c)) w.2, y.2)))
      (λ ne. subst (Looked stands t m m') (sym (ne_eqb n t ne)) (l.0, l.1, l.3.1 (λ is. ne (sym (some_in t n (sym w.0 ∙ is)))) ∙ ap (λ (c : List (ℕ × Option S)). (seeing l.0 m.0, c)) w.2))

  pub sees_first : (m : SeatOf S E O) → m.1 ≡ [] → Seeing m m
  sees_first m e = (m.0.seen, starts_whole m.0.seen, λ i. (m.0, e i))

  pub sees_again : (m m' m'' : SeatOf S E O) → Seeing m m' → Seeing m' m'' → Seeing m m''
  sees_again m m' m'' p q = (q.0, starts_again q.0 p.0 m.0.seen (subst (λ (z : SeatOf S E O). StartsWith q.0 z.0.seen) p.2 q.1) p.1, q.2 ∙ ap (λ (z : SeatOf S E O). (seeing q.0 z.0, [])) p.2)

  pub waits_on : (n : ℕ) (m m' : SeatOf S E O) → Waits n m → Seeing m m' → Waits n m'
  waits_on n m m' w p = (ap (λ (z : SeatOf S E O). z.0.ticket) p.2 ∙ w.0, ap (λ (z : SeatOf S E O). z.0.stage) p.2 ∙ w.1, ap (λ (z : SeatOf S E O). z.1) p.2)

  pub called_after : (n : ℕ) (m m' m'' : SeatOf S E O) → Seeing m m' → Called stands n m' m'' → Called stands n m m''
  called_after n m m' m'' p q = (
    q.0,
    starts_again q.0 p.0 m.0.seen (subst (λ (z : SeatOf S E O). StartsWith q.0 z.0.seen) p.2 q.1) p.1,
    q.2,
    q.3,
    q.4 ∙ ap (λ (z : SeatOf S E O). (going_out q.0 z.0, (0, Some q.3) ∷ [])) p.2,
    (q.5.0, sym (ap (λ (z : SeatOf S E O). z.0.opened) p.2) ∙ q.5.1, q.5.2),
  )

  -- what lies in the slot that was taken last
  abbrev pub hand_of : List (ℕ × Option S) → Option S
  hand_of [] = None
  hand_of (y ∷ ys) = y.1

  pub slot_of : (n : ℕ) (a b : SeatOf S E O) → Called stands n a b → (old : Option S) × (b.1 ≡ (0, old) ∷ rest b.1)
  slot_of n a b q = let hand : b.1 ≡ (0, Some q.3) ∷ [] = ap (λ (z : SeatOf S E O). z.1) q.4 in (Some q.3, hand ∙ ap (λ (l : List (ℕ × Option S)). (0, Some q.3) ∷ rest l) (sym hand))

  -- the value that lay in the slot, once it is taken out
  pub took_out : (n : ℕ) (x : S) (m a b c : SeatOf S E O) → Drew m n a → Called stands n a b → b.1 ≡ (0, Some x) ∷ rest b.1 → c ≡ (b.0, (0, None) ∷ rest b.1) → TookValue stands m x c
  took_out n x m a b c d q f g =
      let hand : (0, Some x) ∷ rest b.1 ≡ (0, Some q.3) ∷ [] = sym f ∙ ap (λ (z : SeatOf S E O). z.1) q.4 in
      let same : x ≡ q.3 = some_in x q.3 (ap hand_of hand) in
      let out_of : SeatOf S E O → SeatOf S E O = λ z. (z.0, (0, None) ∷ rest z.1) in
      let going : SeatOf S E O → SeatOf S E O = λ z. (going_out q.0 z.0, (0, None) ∷ []) in
      let at : ℕ → SeatOf S E O = λ k. (going_out q.0 (holding k (noted false m.0)), (0, None) ∷ []) in (
        q.0,
        subst (λ (z : SeatOf S E O). StartsWith q.0 z.0.seen) d q.1,
        g ∙ ap out_of q.4 ∙ ap going d ∙ ap at (sym q.2),
        (q.5.0, sym (ap (λ (z : SeatOf S E O). z.0.opened) d) ∙ q.5.1, subst (λ (y : S). stands q.5.0 q.0 y) (sym same) q.5.2),
      )

  pub waits_of : (n : ℕ) (m a : SeatOf S E O) → IsIdle m → Drew m n a → Waits n a
  waits_of n m a w d = (ap (λ (z : SeatOf S E O). z.0.ticket) d, ap (λ (z : SeatOf S E O). z.0.stage) d ∙ w.stage_is, ap (λ (z : SeatOf S E O). z.1) d ∙ w.hand_is)

  pub drew_tells : (slots n old new : ℕ) (mi m m' : SeatOf S E O) → n ≡ old → m ≡ cleared mi → drew (step slots 0 old new none) m n m' → Drew mi old m'
  drew_tells slots n old new mi m m' is same d =
      let held : ℕ → SeatOf S E O = λ k. (holding k m.0, m.1) in
      let from : Bool → SeatOf S E O = λ b. ((if b then holding n m.0 else m.0), m.1) in
      let kept : SeatOf S E O → SeatOf S E O = λ z. (holding old z.0, z.1) in
      d ∙ ap from (eq-eqb n old is) ∙ ap held is ∙ ap kept same

  pub drew_none : (slots n old new : ℕ) (mi m m' : SeatOf S E O) → n ≢ old → m ≡ cleared mi → drew (step slots 0 old new none) m n m' → cleared m' ≡ cleared mi
  drew_none slots n old new mi m m' ne same d =
      let from : Bool → SeatOf S E O = λ b. ((if b then holding n m.0 else m.0), m.1) in
      let clear : SeatOf S E O → SeatOf S E O = λ z. (noted false z.0, z.1) in
      ap clear (d ∙ ap from (ne_eqb n old ne) ∙ same)

  pub learn_tells : (st : Step (Option S)) (n : ℕ) (v w : View E O) (l : List (ℕ × Option S)) (m m' : SeatOf S E O) → learned_both st m n m' → m ≡ (joined v w, l) → StartsWith (longer v.seen w.seen) v.seen × StartsWith (longer v.seen w.seen) w.seen
  learn_tells st n v w l m m' t is =
      let one : StartsWith (longer v.seen w.seen) v.seen = subst (λ (z : SeatOf S E O). StartsWith (longer z.0.seen z.0.told) z.0.seen) is t.1 in
      let two : StartsWith (longer v.seen w.seen) w.seen = subst (λ (z : SeatOf S E O). StartsWith (longer z.0.seen z.0.told) z.0.told) is t.2 in
      (one, two)

  pub closed_some : (m : SeatOf S E O) (xs : List (Option S)) (r : Option S) (y : S) → get_elem? xs 0 ≡ some r → r ≡ Some y → (x : S) × (get_elem? xs 0 ≡ some (Some x)) × ClosesSeat stands m x → ClosesSeat stands m y
  closed_some m xs r y e is q = subst (ClosesSeat stands m) (some_in q.0 y (some-injective (Some q.0) r (sym q.1 ∙ e) ∙ is)) q.2

  pub closed_none : (m : SeatOf S E O) (xs : List (Option S)) (r : Option S) → get_elem? xs 0 ≡ some r → r ≡ None → (x : S) × (get_elem? xs 0 ≡ some (Some x)) × ClosesSeat stands m x → ⊥
  closed_none m xs r e is q = None≢Some q.0 (sym (some-injective (Some q.0) r (sym q.1 ∙ e) ∙ is))

  pub not_none : (n : ℕ) (a b : SeatOf S E O) (l : List (ℕ × Option S)) → Called stands n a b → b.1 ≡ (0, None) ∷ l → ⊥
  not_none n a b l q e = None≢Some q.3 (ap hand_of (sym e ∙ ap (λ (z : SeatOf S E O). z.1) q.4))
