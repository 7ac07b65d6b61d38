-- The machine goes along with each text that spells a term.
use Rattle.std.proofs.Common.{◌≡◌, ◌==◌, ◌||◌, ◌++◌, ℕ, Bool, true, false, List, [], ◌∷◌, Option, Some, None, codes, refl, ap, sym, inl, inr, ◌∙◌, append_assoc}
use Rattle.std.proofs.lemmas.Bool.{cases_Bool}
use Rattle.std.proofs.lemmas.List.{append-nil}
use Rattle.query_text.specs.Signs.{is_space, is_field_byte, is_field_start, is_quoted_byte, is_word_byte}
use Rattle.query_text.specs.Query.{Ors, term}
use Rattle.query_text.specs.Grammar.{SpellsBytes, SpellsSigns, SpellsBound, SpellsWanted, SpellsTerm, closing, opening}
use Rattle.query_text.specs.Parts.{bound_step, bound_end, value_step, part_step, ended}
use Rattle.query_text.specs.Machine.{pushed, at, due_step, after_step, term_step, naming_step, steps, finished}
use Rattle.query_text.specs.declared.term.Term.{Term}
use Rattle.query_text.specs.declared.term.Term.TheVariants.{Every, AtField}
use Rattle.query_text.specs.declared.term.Wanted.{Wanted}
use Rattle.query_text.specs.declared.term.Wanted.TheVariants.{Equal, Like, Between}
use Rattle.query_text.specs.declared.term.Sign.{Sign}
use Rattle.query_text.specs.declared.term.Sign.TheVariants.{Any, One, Byte}
use Rattle.query_text.specs.declared.parts.Bound.{Bound}
use Rattle.query_text.specs.declared.parts.Bound.TheVariants as bound
use Rattle.query_text.specs.declared.parts.Part.{Part}
use Rattle.query_text.specs.declared.parts.Part.TheVariants as part
use Rattle.query_text.specs.Frames.{Frame}
use Rattle.query_text.specs.declared.frames.Mode.TheVariants.{Due, Naming, Within, After}
use Rattle.query_text.specs.declared.frames.Config.{Config}
use Rattle.query_text.proofs.Choices.{is_not, field_not_space, start_not_space, word_not_space, or_false}
use Rattle.query_text.proofs.Coming.{between}

-- what a text makes of it, to its end
abbrev pub run : Option Config → List ℕ → Option Ors
run here text = finished (steps text here)

abbrev pub within : Part → Frame → List Frame → Option Config
within x f below = Some (at (Within x) f below)

-- the text ends, or white space or `)` follows
abbrev pub ends_well : List ℕ → Bool
ends_well [] = true
ends_well (b ∷ text) = is_space b || b == 41

-- a term that may end here ends
end_runs : (x : Part) (t : Term) (f : Frame) (below : List Frame) (u : List ℕ) → ended x ≡ Some t → ends_well u ≡ true
    → run (within x f below) u ≡ run (Some (at After (pushed (term t) f) below)) u
end_runs x t f [] [] is well = rw is refl
end_runs x t f (g ∷ below) [] is well = refl
end_runs x t f below (b ∷ u) is well =
    let one : term_step (ended x) x f below b ≡ after_step (pushed (term t) f) below b = rw (is, well) refl in
    ap (λ o. run o u) one

-- one byte of a term that can't end here
on_runs : (x y : Part) (f : Frame) (below : List Frame) (b : ℕ) (u : List ℕ) → ended x ≡ None → part_step x b ≡ Some y
    → run (within x f below) (b ∷ u) ≡ run (within y f below) u
on_runs x y f below b u open_end is =
    let one : term_step (ended x) x f below b ≡ within y f below = rw (open_end, is) refl in
    ap (λ o. run o u) one

-- bytes in quotes
quoted_byte_is : (b : ℕ) → is_quoted_byte b ≡ true → ((b == 34) ≡ false) × ((b == 92) ≡ false)
quoted_byte_is b is = (is_not is_quoted_byte 34 b refl is, is_not is_quoted_byte 92 b refl is)

quoted_runs : (bytes f w s u : List ℕ) (fr : Frame) (below : List Frame) → SpellsBytes is_quoted_byte bytes s
    → run (within (part.Quoted f w) fr below) (s ++ 34 ∷ u) ≡ run (within (part.Whole (AtField f (Equal (w ++ bytes)))) fr below) u
quoted_runs [] f w s u fr below none =
    ap (λ r. run (within (part.Quoted f w) fr below) (r ++ 34 ∷ u)) none
    ∙ ap (λ v. run (within (part.Whole (AtField f (Equal v))) fr below) u) (sym (append-nil w))
quoted_runs (b ∷ bytes) f w s u fr below (rest, inl (eq, is), spelled) =
    let tests = quoted_byte_is b is in
    ap (λ r. run (within (part.Quoted f w) fr below) (r ++ 34 ∷ u)) eq
    ∙ on_runs (part.Quoted f w) (part.Quoted f (w ++ b ∷ [])) fr below b (rest ++ 34 ∷ u) refl (rw (tests.0, tests.1) refl)
    ∙ quoted_runs bytes f (w ++ b ∷ []) rest u fr below spelled
    ∙ ap (λ v. run (within (part.Whole (AtField f (Equal v))) fr below) u) (append_assoc w (b ∷ []) bytes)
quoted_runs (b ∷ bytes) f w s u fr below (rest, inr eq, spelled) =
    ap (λ r. run (within (part.Quoted f w) fr below) (r ++ 34 ∷ u)) eq
    ∙ quoted_runs bytes f (w ++ b ∷ []) rest u fr below spelled
    ∙ ap (λ v. run (within (part.Whole (AtField f (Equal v))) fr below) u) (append_assoc w (b ∷ []) bytes)

-- signs of a word
word_on : (x y : Part) (t : Term) (f : Frame) (below : List Frame) (b : ℕ) (u : List ℕ) → ended x ≡ Some t → (is_space b || b == 41) ≡ false → part_step x b ≡ Some y
    → run (within x f below) (b ∷ u) ≡ run (within y f below) u
word_on x y t f below b u is other goes =
    let one : term_step (ended x) x f below b ≡ within y f below = rw (is, other, goes) refl in
    ap (λ o. run o u) one

word_end : (b : ℕ) → is_word_byte b ≡ true → (is_space b || b == 41) ≡ false
word_end b is = or_false (is_space b) (b == 41) (word_not_space b is) (is_not is_word_byte 41 b refl is)

word_runs : (signs : List Sign) (f : List ℕ) (w : List Sign) (s u : List ℕ) (fr : Frame) (below : List Frame) → SpellsSigns signs s
    → run (within (part.Word f w) fr below) (s ++ u) ≡ run (within (part.Word f (w ++ signs)) fr below) u
word_runs [] f w s u fr below none =
    ap (λ r. run (within (part.Word f w) fr below) (r ++ u)) none ∙ ap (λ v. run (within (part.Word f v) fr below) u) (sym (append-nil w))
word_runs (Any ∷ signs) f w s u fr below (rest, eq, spelled) =
    ap (λ r. run (within (part.Word f w) fr below) (r ++ u)) eq
    ∙ word_runs signs f (w ++ Any ∷ []) rest u fr below spelled
    ∙ ap (λ v. run (within (part.Word f v) fr below) u) (append_assoc w (Any ∷ []) signs)
word_runs (One ∷ signs) f w s u fr below (rest, eq, spelled) =
    ap (λ r. run (within (part.Word f w) fr below) (r ++ u)) eq
    ∙ word_runs signs f (w ++ One ∷ []) rest u fr below spelled
    ∙ ap (λ v. run (within (part.Word f v) fr below) u) (append_assoc w (One ∷ []) signs)
word_runs (Byte b ∷ signs) f w s u fr below (rest, inl (eq, is), spelled) =
    ap (λ r. run (within (part.Word f w) fr below) (r ++ u)) eq
    ∙ word_on (part.Word f w) (part.Word f (w ++ Byte b ∷ [])) (AtField f (Like w)) fr below b (rest ++ u) refl (word_end b is)
    (rw (is, is_not is_word_byte 92 b refl is, is_not is_word_byte 42 b refl is, is_not is_word_byte 63 b refl is) refl)
    ∙ word_runs signs f (w ++ Byte b ∷ []) rest u fr below spelled
    ∙ ap (λ v. run (within (part.Word f v) fr below) u) (append_assoc w (Byte b ∷ []) signs)
word_runs (Byte b ∷ signs) f w s u fr below (rest, inr eq, spelled) =
    ap (λ r. run (within (part.Word f w) fr below) (r ++ u)) eq
    ∙ word_runs signs f (w ++ Byte b ∷ []) rest u fr below spelled
    ∙ ap (λ v. run (within (part.Word f v) fr below) u) (append_assoc w (Byte b ∷ []) signs)

-- a bound of a range, in whatever holds it and goes along with its bytes but for one that ends it
module _ (K : Bound → Option Config) (stop : ℕ → Bool)
    (goes : (x y : Bound) (b : ℕ) (u : List ℕ) → bound_step x b ≡ Some y → (stop b ≡ true → bound_end x ≡ None) → run (K x) (b ∷ u) ≡ run (K y) u)
    (words : (b : ℕ) → is_word_byte b ≡ true → stop b ≡ false) (stop34 : stop 34 ≡ false) (stop42 : stop 42 ≡ false) (stop92 : stop 92 ≡ false) where
  plain_bound : (bytes w s u : List ℕ) → SpellsBytes is_word_byte bytes s → run (K (bound.Word w)) (s ++ u) ≡ run (K (bound.Word (w ++ bytes))) u
  plain_bound [] w s u none =
      ap (λ r. run (K (bound.Word w)) (r ++ u)) none ∙ ap (λ v. run (K (bound.Word v)) u) (sym (append-nil w))
  plain_bound (b ∷ bytes) w s u (rest, inl (eq, is), spelled) =
      ap (λ r. run (K (bound.Word w)) (r ++ u)) eq
      ∙ goes (bound.Word w) (bound.Word (w ++ b ∷ [])) b (rest ++ u) (rw (is, is_not is_word_byte 92 b refl is) refl) (λ stops. let other = words b is in cc)
      ∙ plain_bound bytes (w ++ b ∷ []) rest u spelled
      ∙ ap (λ v. run (K (bound.Word v)) u) (append_assoc w (b ∷ []) bytes)
  plain_bound (b ∷ bytes) w s u (rest, inr eq, spelled) =
      ap (λ r. run (K (bound.Word w)) (r ++ u)) eq
      ∙ goes (bound.Word w) (bound.WordEscape w) 92 (b ∷ (rest ++ u)) refl (λ stops. cc)
      ∙ goes (bound.WordEscape w) (bound.Word (w ++ b ∷ [])) b (rest ++ u) refl (λ stops. refl)
      ∙ plain_bound bytes (w ++ b ∷ []) rest u spelled
      ∙ ap (λ v. run (K (bound.Word v)) u) (append_assoc w (b ∷ []) bytes)

  quoted_bound : (bytes w s u : List ℕ) → SpellsBytes is_quoted_byte bytes s → run (K (bound.Quoted w)) (s ++ 34 ∷ u) ≡ run (K (bound.Whole (Some (w ++ bytes)))) u
  quoted_bound [] w s u none =
      ap (λ r. run (K (bound.Quoted w)) (r ++ 34 ∷ u)) none
      ∙ goes (bound.Quoted w) (bound.Whole (Some w)) 34 u refl (λ stops. refl)
      ∙ ap (λ v. run (K (bound.Whole (Some v))) u) (sym (append-nil w))
  quoted_bound (b ∷ bytes) w s u (rest, inl (eq, is), spelled) =
      let tests = quoted_byte_is b is in
      ap (λ r. run (K (bound.Quoted w)) (r ++ 34 ∷ u)) eq
      ∙ goes (bound.Quoted w) (bound.Quoted (w ++ b ∷ [])) b (rest ++ 34 ∷ u) (rw (tests.0, tests.1) refl) (λ stops. refl)
      ∙ quoted_bound bytes (w ++ b ∷ []) rest u spelled
      ∙ ap (λ v. run (K (bound.Whole (Some v))) u) (append_assoc w (b ∷ []) bytes)
  quoted_bound (b ∷ bytes) w s u (rest, inr eq, spelled) =
      ap (λ r. run (K (bound.Quoted w)) (r ++ 34 ∷ u)) eq
      ∙ goes (bound.Quoted w) (bound.QuotedEscape w) 92 (b ∷ (rest ++ 34 ∷ u)) refl (λ stops. refl)
      ∙ goes (bound.QuotedEscape w) (bound.Quoted (w ++ b ∷ [])) b (rest ++ 34 ∷ u) refl (λ stops. refl)
      ∙ quoted_bound bytes (w ++ b ∷ []) rest u spelled
      ∙ ap (λ v. run (K (bound.Whole (Some v))) u) (append_assoc w (b ∷ []) bytes)

  bound_runs : (o : Option (List ℕ)) (s : List ℕ) → SpellsBound o s → (x : Bound) × (bound_end x ≡ Some o) × ((u : List ℕ) → run (K bound.Due) (s ++ u) ≡ run (K x) u)
  bound_runs None s eq =
      (bound.Whole None, refl, λ u. ap (λ r. run (K bound.Due) (r ++ u)) eq ∙ goes bound.Due (bound.Whole None) 42 u refl (λ stops. refl))
  bound_runs (Some []) s (inl none) = absurd none
  bound_runs (Some (b ∷ bytes)) s (inl (rest, inl (eq, is), spelled)) = (
    bound.Word (b ∷ bytes),
    refl,
    λ u.
        ap (λ r. run (K bound.Due) (r ++ u)) eq
        ∙ goes bound.Due (bound.Word (b ∷ [])) b (rest ++ u) (rw (is, is_not is_word_byte 42 b refl is, is_not is_word_byte 34 b refl is, is_not is_word_byte 92 b refl is) refl) (λ stops. refl)
        ∙ plain_bound bytes (b ∷ []) rest u spelled,
  )
  bound_runs (Some (b ∷ bytes)) s (inl (rest, inr eq, spelled)) = (
    bound.Word (b ∷ bytes),
    refl,
    λ u.
        ap (λ r. run (K bound.Due) (r ++ u)) eq
        ∙ goes bound.Due (bound.WordEscape []) 92 (b ∷ (rest ++ u)) refl (λ stops. refl)
        ∙ goes (bound.WordEscape []) (bound.Word (b ∷ [])) b (rest ++ u) refl (λ stops. refl)
        ∙ plain_bound bytes (b ∷ []) rest u spelled,
  )
  bound_runs (Some bytes) s (inr (inner, eq, spelled)) = (
    bound.Whole (Some bytes),
    refl,
    λ u.
        ap (λ r. run (K bound.Due) (r ++ u)) eq
        ∙ goes bound.Due (bound.Quoted []) 34 ((inner ++ 34 ∷ []) ++ u) refl (λ stops. refl)
        ∙ ap (λ r. run (K (bound.Quoted [])) r) (append_assoc inner (34 ∷ []) u)
        ∙ quoted_bound bytes [] inner u spelled,
  )

low_goes : (f : List ℕ) (ends : Bool) (fr : Frame) (below : List Frame) (x y : Bound) (b : ℕ) (u : List ℕ) → bound_step x b ≡ Some y → ((b == 32) ≡ true → bound_end x ≡ None)
    → run (within (part.Low f ends x) fr below) (b ∷ u) ≡ run (within (part.Low f ends y) fr below) u
low_goes f ends fr below x y b u is none =
    let step_is : part_step (part.Low f ends x) b ≡ Some (part.Low f ends y) = elim (cases_Bool (b == 32)) [
      | inl space ↦ rw (space, none space, is) refl
      | inr other ↦ rw (other, is) refl
    ] in
    on_runs (part.Low f ends x) (part.Low f ends y) fr below b u refl step_is

high_goes : (f : List ℕ) (ends : Bool) (low : Option (List ℕ)) (fr : Frame) (below : List Frame) (x y : Bound) (b : ℕ) (u : List ℕ) → bound_step x b ≡ Some y → ((b == closing ends) ≡ true → bound_end x ≡ None)
    → run (within (part.High f ends low x) fr below) (b ∷ u) ≡ run (within (part.High f ends low y) fr below) u
high_goes f ends low fr below x y b u is none =
    let step_is : part_step (part.High f ends low x) b ≡ Some (part.High f ends low y) = elim (cases_Bool (b == closing ends)) [
      | inl closes ↦ rw (closes, none closes, is) refl
      | inr other ↦ rw (other, is) refl
    ] in
    on_runs (part.High f ends low x) (part.High f ends low y) fr below b u refl step_is

closing_word : (ends : Bool) (b : ℕ) → is_word_byte b ≡ true → (b == closing ends) ≡ false
closing_word true b is = is_not is_word_byte 93 b refl is
closing_word false b is = is_not is_word_byte 125 b refl is

closing_not : (ends : Bool) → ((34 == closing ends) ≡ false) × ((42 == closing ends) ≡ false) × ((92 == closing ends) ≡ false) × ((closing ends == closing ends) ≡ true)
closing_not true = (refl, refl, refl, refl)
closing_not false = (refl, refl, refl, refl)

opens : (f : List ℕ) (ends : Bool) → value_step f (opening ends) ≡ Some (part.Low f ends bound.Due)
opens f true = refl
opens f false = refl

range_text : (low high u : List ℕ) (close : ℕ) → (low ++ (codes " TO " ++ (high ++ close ∷ []))) ++ u ≡ low ++ (codes " TO " ++ (high ++ close ∷ u))
range_text low high u close =
    append_assoc low (codes " TO " ++ (high ++ close ∷ [])) u ∙ ap (λ r. low ++ (codes " TO " ++ r)) (append_assoc high (close ∷ []) u)

range_runs : (f : List ℕ) (ends : Bool) (low high : Option (List ℕ)) (s front back u : List ℕ) (fr : Frame) (below : List Frame)
    → s ≡ opening ends ∷ (front ++ (codes " TO " ++ (back ++ closing ends ∷ []))) → SpellsBound low front → SpellsBound high back
    → run (within (part.ValueDue f) fr below) (s ++ u) ≡ run (within (part.Whole (between f ends low high)) fr below) u
range_runs f ends low high s front back u fr below eq is_low is_high =
    let nots = closing_not ends in
    let (x, x_ends, x_runs) = bound_runs (λ y. within (part.Low f ends y) fr below) (λ b. b == 32) (low_goes f ends fr below) (λ b is. is_not is_word_byte 32 b refl is) refl refl refl low front is_low in
    let (y, y_ends, y_runs) = bound_runs (λ z. within (part.High f ends low z) fr below) (λ b. b == closing ends) (high_goes f ends low fr below) (closing_word ends) nots.0 nots.1 nots.2 high back is_high in
    let to_t : part_step (part.Low f ends x) 32 ≡ Some (part.ToT f ends low) = rw x_ends refl in
    let done : part_step (part.High f ends low y) (closing ends) ≡ Some (part.Whole (between f ends low high)) = rw (nots.3, y_ends) refl in
    ap (λ r. run (within (part.ValueDue f) fr below) (r ++ u)) eq
    ∙ on_runs (part.ValueDue f) (part.Low f ends bound.Due) fr below (opening ends) ((front ++ (codes " TO " ++ (back ++ closing ends ∷ []))) ++ u) refl (opens f ends)
    ∙ ap (λ r. run (within (part.Low f ends bound.Due) fr below) r) (range_text front back u (closing ends))
    ∙ x_runs (codes " TO " ++ (back ++ closing ends ∷ u))
    ∙ on_runs (part.Low f ends x) (part.ToT f ends low) fr below 32 (codes "TO " ++ (back ++ closing ends ∷ u)) refl to_t
    ∙ y_runs (closing ends ∷ u)
    ∙ on_runs (part.High f ends low y) (part.Whole (between f ends low high)) fr below (closing ends) u refl done

-- a word from its first sign
first_runs : (sign : Sign) (signs : List Sign) (f s u : List ℕ) (fr : Frame) (below : List Frame) → SpellsSigns (sign ∷ signs) s
    → run (within (part.ValueDue f) fr below) (s ++ u) ≡ run (within (part.Word f (sign ∷ signs)) fr below) u
first_runs Any signs f s u fr below (rest, eq, spelled) =
    ap (λ r. run (within (part.ValueDue f) fr below) (r ++ u)) eq ∙ word_runs signs f (Any ∷ []) rest u fr below spelled
first_runs One signs f s u fr below (rest, eq, spelled) =
    ap (λ r. run (within (part.ValueDue f) fr below) (r ++ u)) eq ∙ word_runs signs f (One ∷ []) rest u fr below spelled
first_runs (Byte b) signs f s u fr below (rest, inl (eq, is), spelled) =
    let goes : value_step f b ≡ Some (part.Word f (Byte b ∷ [])) =
    rw (is, is_not is_word_byte 34 b refl is, is_not is_word_byte 91 b refl is, is_not is_word_byte 123 b refl is, is_not is_word_byte 92 b refl is, is_not is_word_byte 42 b refl is, is_not is_word_byte 63 b refl is) refl in
    ap (λ r. run (within (part.ValueDue f) fr below) (r ++ u)) eq
    ∙ on_runs (part.ValueDue f) (part.Word f (Byte b ∷ [])) fr below b (rest ++ u) refl goes
    ∙ word_runs signs f (Byte b ∷ []) rest u fr below spelled
first_runs (Byte b) signs f s u fr below (rest, inr eq, spelled) =
    ap (λ r. run (within (part.ValueDue f) fr below) (r ++ u)) eq ∙ word_runs signs f (Byte b ∷ []) rest u fr below spelled

value_runs : (wanted : Wanted) (f s u : List ℕ) (fr : Frame) (below : List Frame) → SpellsWanted wanted s → ends_well u ≡ true
    → run (within (part.ValueDue f) fr below) (s ++ u) ≡ run (Some (at After (pushed (term (AtField f wanted)) fr) below)) u
value_runs (Equal bytes) f s u fr below (inner, eq, spelled) well =
    ap (λ r. run (within (part.ValueDue f) fr below) (r ++ u)) eq
    ∙ ap (λ r. run (within (part.Quoted f []) fr below) r) (append_assoc inner (34 ∷ []) u)
    ∙ quoted_runs bytes f [] inner u fr below spelled
    ∙ end_runs (part.Whole (AtField f (Equal bytes))) (AtField f (Equal bytes)) fr below u refl well
value_runs (Like []) f s u fr below spelled well = absurd spelled
value_runs (Like (sign ∷ signs)) f s u fr below spelled well =
    first_runs sign signs f s u fr below spelled
    ∙ end_runs (part.Word f (sign ∷ signs)) (AtField f (Like (sign ∷ signs))) fr below u refl well
value_runs (Between range) f s u fr below (front, back, eq, is_low, is_high) well =
    range_runs f range.with_ends range.low range.high s front back u fr below eq is_low is_high
    ∙ end_runs (part.Whole (AtField f (Between range))) (AtField f (Between range)) fr below u refl well

-- a field behind an escape, and one that may still be NOT
field_runs : (g name s u : List ℕ) (fr : Frame) (below : List Frame) → SpellsBytes is_field_byte g s
    → run (within (part.Field name) fr below) (s ++ 58 ∷ u) ≡ run (within (part.ValueDue (name ++ g)) fr below) u
field_runs [] name s u fr below none =
    ap (λ r. run (within (part.Field name) fr below) (r ++ 58 ∷ u)) none ∙ ap (λ v. run (within (part.ValueDue v) fr below) u) (sym (append-nil name))
field_runs (b ∷ g) name s u fr below (rest, inl (eq, is), spelled) =
    ap (λ r. run (within (part.Field name) fr below) (r ++ 58 ∷ u)) eq
    ∙ on_runs (part.Field name) (part.Field (name ++ b ∷ [])) fr below b (rest ++ 58 ∷ u) refl (rw (is_not is_field_byte 58 b refl is, is_not is_field_byte 92 b refl is, is) refl)
    ∙ field_runs g (name ++ b ∷ []) rest u fr below spelled
    ∙ ap (λ v. run (within (part.ValueDue v) fr below) u) (append_assoc name (b ∷ []) g)
field_runs (b ∷ g) name s u fr below (rest, inr eq, spelled) =
    ap (λ r. run (within (part.Field name) fr below) (r ++ 58 ∷ u)) eq
    ∙ field_runs g (name ++ b ∷ []) rest u fr below spelled
    ∙ ap (λ v. run (within (part.ValueDue v) fr below) u) (append_assoc name (b ∷ []) g)

naming_runs : (g name s u : List ℕ) (fr : Frame) (below : List Frame) → SpellsBytes is_field_byte g s
    → run (Some (at (Naming name) fr below)) (s ++ 58 ∷ u) ≡ run (within (part.ValueDue (name ++ g)) fr below) u
naming_runs [] name s u fr below none =
    ap (λ r. run (Some (at (Naming name) fr below)) (r ++ 58 ∷ u)) none ∙ ap (λ v. run (within (part.ValueDue v) fr below) u) (sym (append-nil name))
naming_runs (b ∷ g) name s u fr below (rest, inl (eq, is), spelled) =
    let apart = or_false (is_space b) (b == 40) (field_not_space b is) (is_not is_field_byte 40 b refl is) in
    let one : naming_step name fr below b ≡ Some (at (Naming (name ++ b ∷ [])) fr below) =
    rw (apart, is_not is_field_byte 58 b refl is, is_not is_field_byte 92 b refl is, is) refl in
    ap (λ r. run (Some (at (Naming name) fr below)) (r ++ 58 ∷ u)) eq
    ∙ ap (λ o. run o (rest ++ 58 ∷ u)) one
    ∙ naming_runs g (name ++ b ∷ []) rest u fr below spelled
    ∙ ap (λ v. run (within (part.ValueDue v) fr below) u) (append_assoc name (b ∷ []) g)
naming_runs (b ∷ g) name s u fr below (rest, inr eq, spelled) =
    ap (λ r. run (Some (at (Naming name) fr below)) (r ++ 58 ∷ u)) eq
    ∙ field_runs g (name ++ b ∷ []) rest u fr below spelled
    ∙ ap (λ v. run (within (part.ValueDue v) fr below) u) (append_assoc name (b ∷ []) g)

due_start : (b : ℕ) (fr : Frame) (below : List Frame) → is_field_start b ≡ true → due_step fr below b ≡ Some (at (Naming (b ∷ [])) fr below)
due_start b fr below is =
    rw (start_not_space b is, is_not is_field_start 40 b refl is, is_not is_field_start 42 b refl is, is_not is_field_start 92 b refl is, is) refl

pub term_runs : (t : Term) (s u : List ℕ) (fr : Frame) (below : List Frame) → SpellsTerm t s → ends_well u ≡ true
    → run (Some (at Due fr below)) (s ++ u) ≡ run (Some (at After (pushed (term t) fr) below)) u
term_runs Every s u fr below eq well =
    ap (λ r. run (Some (at Due fr below)) (r ++ u)) eq ∙ end_runs (part.Whole Every) Every fr below u refl well
term_runs (AtField [] wanted) s u fr below (front, value, eq, none, spelled) well = absurd none
term_runs (AtField (b ∷ g) wanted) s u fr below (front, value, eq, (rest, inl (first, is), field), spelled) well =
    ap (λ r. run (Some (at Due fr below)) (r ++ u)) (eq ∙ ap (λ r. r ++ 58 ∷ value) first)
    ∙ ap (λ o. run o ((rest ++ 58 ∷ value) ++ u)) (due_start b fr below is)
    ∙ ap (λ r. run (Some (at (Naming (b ∷ [])) fr below)) r) (append_assoc rest (58 ∷ value) u)
    ∙ naming_runs g (b ∷ []) rest (value ++ u) fr below field
    ∙ value_runs wanted (b ∷ g) value u fr below spelled well
term_runs (AtField (b ∷ g) wanted) s u fr below (front, value, eq, (rest, inr first, field), spelled) well =
    ap (λ r. run (Some (at Due fr below)) (r ++ u)) (eq ∙ ap (λ r. r ++ 58 ∷ value) first)
    ∙ ap (λ r. run (within (part.Field (b ∷ [])) fr below) r) (append_assoc rest (58 ∷ value) u)
    ∙ field_runs g (b ∷ []) rest (value ++ u) fr below field
    ∙ value_runs wanted (b ∷ g) value u fr below spelled well
