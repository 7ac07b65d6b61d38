-- One byte before what is still to come of a term.
use Rattle.std.proofs.Common.{◌≡◌, ◌==◌, ◌++◌, ℕ, Bool, true, false, List, [], ◌∷◌, Option, Some, None, if◌then◌else◌, option_map, codes, refl, ap, ap₂, sym, subst, inl, inr, ◌∙◌, append_assoc}
use Rattle.std.proofs.lemmas.Bool.{eqb-true}
use Rattle.std.proofs.lemmas.List.{append-nil}
use Rattle.query_text.specs.Signs.{is_field_byte, is_word_byte}
use Rattle.query_text.specs.Grammar.{SpellsSigns, SpellsBound, closing}
use Rattle.query_text.specs.Parts.{bound_step, plain_step, bound_end, word_step, value_step, low_more, low_end, high_more, high_end, part_step, ended}
use Rattle.query_text.specs.declared.term.Term.{Term}
use Rattle.query_text.specs.declared.term.Term.TheVariants.{Every, AtField}
use Rattle.query_text.specs.declared.term.Wanted.TheVariants.{Equal, Like, Between}
use Rattle.query_text.specs.declared.term.Sign.{Sign}
use Rattle.query_text.specs.declared.term.Sign.TheVariants.{Any, One, Byte}
use Rattle.query_text.specs.declared.parts.Bound.{Bound}
use Rattle.query_text.specs.declared.parts.Bound.TheVariants as bound
use Rattle.query_text.specs.declared.parts.Part.{Part}
use Rattle.query_text.specs.declared.parts.Part.TheVariants as part
use Rattle.query_text.proofs.Choices.{Holds, if_some, quoted_byte}
use Rattle.query_text.proofs.Coming.{ToPlain, ToQuotedBound, ToBound, ToField, ToQuoted, ToTail, ToTerm}

-- a byte in front, by a test that it is this one
pub cons_is : (k b : ℕ) (text rest : List ℕ) → (b == k) ≡ true → text ≡ rest → b ∷ text ≡ k ∷ rest
cons_is k b text rest is same = ap₂ ◌∷◌ (eqb-true b k is) same

plain_goes : (w : List ℕ) (b : ℕ) (text : List ℕ) (o : Option (List ℕ)) → Holds (λ y. ToBound y text o) (plain_step w b) → ToPlain w (b ∷ text) o
plain_goes w b text o =
    let P : Bound → Type 0 = λ y. ToBound y text o in
    let R : Type 0 = ToPlain w (b ∷ text) o in
    λ h. if_some P R (b == 92) (Some (bound.WordEscape w)) (if is_word_byte b then (Some (bound.Word (w ++ b ∷ []))) else None) h
    (λ is (c, rest, eq, (u, spelled, same)). (c ∷ u, (rest, inr (cons_is 92 b text (c ∷ rest) is eq), spelled), same ∙ ap Some (append_assoc w (c ∷ []) u)))
    (λ _ h. if_some P R (is_word_byte b) (Some (bound.Word (w ++ b ∷ []))) None h
    (λ is (u, spelled, same). (b ∷ u, (text, inl (refl, is), spelled), same ∙ ap Some (append_assoc w (b ∷ []) u)))
    (λ _ h. absurd h))

quoted_bound_goes : (w : List ℕ) (b : ℕ) (text : List ℕ) (o : Option (List ℕ)) → Holds (λ y. ToBound y text o) (bound_step (bound.Quoted w) b) → ToQuotedBound w (b ∷ text) o
quoted_bound_goes w b text o =
    let P : Bound → Type 0 = λ y. ToBound y text o in
    let R : Type 0 = ToQuotedBound w (b ∷ text) o in
    λ h. if_some P R (b == 34) (Some (bound.Whole (Some w))) (if b == 92 then (Some (bound.QuotedEscape w)) else (Some (bound.Quoted (w ++ b ∷ [])))) h
    (λ is (none, same). ([], [], cons_is 34 b text [] is none, refl, same ∙ ap Some (sym (append-nil w))))
    (λ other h. if_some P R (b == 92) (Some (bound.QuotedEscape w)) (Some (bound.Quoted (w ++ b ∷ []))) h
    (λ is (c, rest, eq, (u, inner, ends, spelled, same)).
    (c ∷ u, b ∷ c ∷ inner, ap (λ r. b ∷ r) (eq ∙ ap (λ r. c ∷ r) ends), (inner, inr (cons_is 92 b (c ∷ inner) (c ∷ inner) is refl), spelled), same ∙ ap Some (append_assoc w (c ∷ []) u)))
    (λ another (u, inner, ends, spelled, same).
    (b ∷ u, b ∷ inner, ap (λ r. b ∷ r) ends, (inner, inl (refl, quoted_byte b other another), spelled), same ∙ ap Some (append_assoc w (b ∷ []) u))))

as_bound : (o p : Option (List ℕ)) (text : List ℕ) → o ≡ p → SpellsBound p text → SpellsBound o text
as_bound o p text same spelled = subst (λ (x : Option (List ℕ)). SpellsBound x text) (sym same) spelled

-- a byte of a word was read, so the word isn't empty
plain_first : (b : ℕ) (text : List ℕ) (o : Option (List ℕ)) → ToPlain [] (b ∷ text) o → SpellsBound o (b ∷ text)
plain_first b text o ([], none, same) = cc
plain_first b text o (c ∷ u, spelled, same) = as_bound o (Some (c ∷ u)) _ same (inl spelled)

bound_goes : (x : Bound) (b : ℕ) (text : List ℕ) (o : Option (List ℕ)) → Holds (λ y. ToBound y text o) (bound_step x b) → ToBound x (b ∷ text) o
bound_goes bound.Due b text o =
    let P : Bound → Type 0 = λ y. ToBound y text o in
    let R : Type 0 = SpellsBound o (b ∷ text) in
    λ h. if_some P R (b == 42) (Some (bound.Whole None)) (if b == 34 then (Some (bound.Quoted [])) else (plain_step [] b)) h
    (λ is (none, same). as_bound o None _ same (cons_is 42 b text [] is none))
    (λ _ h. if_some P R (b == 34) (Some (bound.Quoted [])) (plain_step [] b) h
    (λ is (u, inner, ends, spelled, same). as_bound o (Some u) _ same (inr (inner, cons_is 34 b text _ is ends, spelled)))
    (λ _ h. plain_first b text o (plain_goes [] b text o h)))
bound_goes (bound.Word w) b text o = plain_goes w b text o
bound_goes (bound.WordEscape w) b text o = λ h. (b, text, refl, h)
bound_goes (bound.Quoted w) b text o = quoted_bound_goes w b text o
bound_goes (bound.QuotedEscape w) b text o = λ h. (b, text, refl, h)
bound_goes (bound.Whole p) b text o = λ h. absurd h

bound_on : (x y : Bound) (b : ℕ) (text : List ℕ) (o : Option (List ℕ)) → bound_step x b ≡ Some y → ToBound y text o → ToBound x (b ∷ text) o
bound_on x y b text o is to =
    bound_goes x b text o (subst (λ (z : Option Bound). Holds (λ y. ToBound y text o) z) (sym is) to)

bound_ends : (x : Bound) (o : Option (List ℕ)) → bound_end x ≡ Some o → ToBound x [] o
bound_ends bound.Due o is = cc
bound_ends (bound.Word w) o is = let same : Some w ≡ o = cc in ([], refl, sym same ∙ ap Some (sym (append-nil w)))
bound_ends (bound.WordEscape w) o is = cc
bound_ends (bound.Quoted w) o is = cc
bound_ends (bound.QuotedEscape w) o is = cc
bound_ends (bound.Whole p) o is = let same : p ≡ o = cc in (refl, sym same)

quoted_goes : (f w : List ℕ) (b : ℕ) (text : List ℕ) (t : Term) → Holds (λ y. ToTerm y text t) (part_step (part.Quoted f w) b) → ToQuoted f w (b ∷ text) t
quoted_goes f w b text t =
    let P : Part → Type 0 = λ y. ToTerm y text t in
    let R : Type 0 = ToQuoted f w (b ∷ text) t in
    λ h. if_some P R (b == 34) (Some (part.Whole (AtField f (Equal w)))) (if b == 92 then (Some (part.QuotedEscape f w)) else (Some (part.Quoted f (w ++ b ∷ [])))) h
    (λ is (none, same). ([], [], cons_is 34 b text [] is none, refl, same ∙ ap (λ v. AtField f (Equal v)) (sym (append-nil w))))
    (λ other h. if_some P R (b == 92) (Some (part.QuotedEscape f w)) (Some (part.Quoted f (w ++ b ∷ []))) h
    (λ is (c, rest, eq, (u, inner, ends, spelled, same)).
    (c ∷ u, b ∷ c ∷ inner, ap (λ r. b ∷ r) (eq ∙ ap (λ r. c ∷ r) ends), (inner, inr (cons_is 92 b (c ∷ inner) (c ∷ inner) is refl), spelled), same ∙ ap (λ v. AtField f (Equal v)) (append_assoc w (c ∷ []) u)))
    (λ another (u, inner, ends, spelled, same).
    (b ∷ u, b ∷ inner, ap (λ r. b ∷ r) ends, (inner, inl (refl, quoted_byte b other another), spelled), same ∙ ap (λ v. AtField f (Equal v)) (append_assoc w (b ∷ []) u))))

-- one sign more of a word
like : (f : List ℕ) (w : List Sign) (s : Sign) (u : List Sign) (t : Term) → t ≡ AtField f (Like ((w ++ s ∷ []) ++ u)) → t ≡ AtField f (Like (w ++ s ∷ u))
like f w s u t same = same ∙ ap (λ v. AtField f (Like v)) (append_assoc w (s ∷ []) u)

word_goes : (f : List ℕ) (w : List Sign) (b : ℕ) (text : List ℕ) (t : Term) → Holds (λ y. ToTerm y text t) (word_step f w b)
    → (s : Sign) × (u : List Sign) × SpellsSigns (s ∷ u) (b ∷ text) × (t ≡ AtField f (Like (w ++ s ∷ u)))
word_goes f w b text t =
    let P : Part → Type 0 = λ y. ToTerm y text t in
    let R : Type 0 = (s : Sign) × (u : List Sign) × SpellsSigns (s ∷ u) (b ∷ text) × (t ≡ AtField f (Like (w ++ s ∷ u))) in
    λ h. if_some P R (b == 92) (Some (part.WordEscape f w)) (if b == 42 then (Some (part.Word f (w ++ Any ∷ []))) else (if b == 63 then (Some (part.Word f (w ++ One ∷ []))) else (if is_word_byte b then (Some (part.Word f (w ++ Byte b ∷ []))) else None))) h
    (λ is (c, rest, eq, (u, spelled, same)). (Byte c, u, (rest, inr (cons_is 92 b text (c ∷ rest) is eq), spelled), like f w (Byte c) u t same))
    (λ _ h. if_some P R (b == 42) (Some (part.Word f (w ++ Any ∷ []))) (if b == 63 then (Some (part.Word f (w ++ One ∷ []))) else (if is_word_byte b then (Some (part.Word f (w ++ Byte b ∷ []))) else None)) h
    (λ is (u, spelled, same). (Any, u, (text, cons_is 42 b text text is refl, spelled), like f w Any u t same))
    (λ _ h. if_some P R (b == 63) (Some (part.Word f (w ++ One ∷ []))) (if is_word_byte b then (Some (part.Word f (w ++ Byte b ∷ []))) else None) h
    (λ is (u, spelled, same). (One, u, (text, cons_is 63 b text text is refl, spelled), like f w One u t same))
    (λ _ h. if_some P R (is_word_byte b) (Some (part.Word f (w ++ Byte b ∷ []))) None h
    (λ is (u, spelled, same). (Byte b, u, (text, inl (refl, is), spelled), like f w (Byte b) u t same))
    (λ _ h. absurd h))))

value_goes : (f : List ℕ) (b : ℕ) (text : List ℕ) (t : Term) → Holds (λ y. ToTerm y text t) (value_step f b) → ToTerm (part.ValueDue f) (b ∷ text) t
value_goes f b text t =
    let P : Part → Type 0 = λ y. ToTerm y text t in
    let R : Type 0 = ToTerm (part.ValueDue f) (b ∷ text) t in
    λ h. if_some P R (b == 34) (Some (part.Quoted f [])) (if b == 91 then (Some (part.Low f true bound.Due)) else (if b == 123 then (Some (part.Low f false bound.Due)) else (word_step f [] b))) h
    (λ is (u, inner, ends, spelled, same). (Equal u, (inner, cons_is 34 b text _ is ends, spelled), same))
    (λ _ h. if_some P R (b == 91) (Some (part.Low f true bound.Due)) (if b == 123 then (Some (part.Low f false bound.Due)) else (word_step f [] b)) h
    (λ is (low, front, high, back, eq, to_low, to_high, same).
    (Between (record { with_ends = true; low = low; high = high }), (front, back, cons_is 91 b text _ is eq, to_low, to_high), same))
    (λ _ h. if_some P R (b == 123) (Some (part.Low f false bound.Due)) (word_step f [] b) h
    (λ is (low, front, high, back, eq, to_low, to_high, same).
    (Between (record { with_ends = false; low = low; high = high }), (front, back, cons_is 123 b text _ is eq, to_low, to_high), same))
    (λ _ h. let (s, u, spelled, same) = word_goes f [] b text t h in (Like (s ∷ u), spelled, same))))

low_more_goes : (f : List ℕ) (ends : Bool) (x : Bound) (b : ℕ) (text : List ℕ) (t : Term) (o : Option Bound) → bound_step x b ≡ o
    → Holds (λ y. ToTerm y text t) (option_map (λ next. part.Low f ends next) o) → ToTerm (part.Low f ends x) (b ∷ text) t
low_more_goes f ends x b text t None is h = absurd h
low_more_goes f ends x b text t (Some y) is (low, front, high, back, eq, to_low, to_high, same) =
    (low, b ∷ front, high, back, ap (λ r. b ∷ r) eq, bound_on x y b front low is to_low, to_high, same)

low_end_goes : (f : List ℕ) (ends : Bool) (x : Bound) (b : ℕ) (text : List ℕ) (t : Term) (o : Option (Option (List ℕ))) → bound_end x ≡ o → (b == 32) ≡ true
    → Holds (λ y. ToTerm y text t) (low_end f ends x b o) → ToTerm (part.Low f ends x) (b ∷ text) t
low_end_goes f ends x b text t None is space h = low_more_goes f ends x b text t (bound_step x b) refl h
low_end_goes f ends x b text t (Some low) is space (high, back, eq, to_high, same) =
    (low, [], high, back, cons_is 32 b text _ space eq, bound_ends x low is, to_high, same)

high_more_goes : (f : List ℕ) (ends : Bool) (low : Option (List ℕ)) (x : Bound) (b : ℕ) (text : List ℕ) (t : Term) (o : Option Bound) → bound_step x b ≡ o
    → Holds (λ y. ToTerm y text t) (option_map (λ next. part.High f ends low next) o) → ToTerm (part.High f ends low x) (b ∷ text) t
high_more_goes f ends low x b text t None is h = absurd h
high_more_goes f ends low x b text t (Some y) is (high, back, eq, to_high, same) =
    (high, b ∷ back, ap (λ r. b ∷ r) eq, bound_on x y b back high is to_high, same)

high_end_goes : (f : List ℕ) (ends : Bool) (low : Option (List ℕ)) (x : Bound) (b : ℕ) (text : List ℕ) (t : Term) (o : Option (Option (List ℕ))) → bound_end x ≡ o → (b == closing ends) ≡ true
    → Holds (λ y. ToTerm y text t) (high_end f ends low x b o) → ToTerm (part.High f ends low x) (b ∷ text) t
high_end_goes f ends low x b text t None is closes h = high_more_goes f ends low x b text t (bound_step x b) refl h
high_end_goes f ends low x b text t (Some high) is closes (none, same) =
    (high, [], cons_is (closing ends) b text [] closes none, bound_ends x high is, same)

-- one letter of ` TO `
letter_goes : (k b : ℕ) (front f : List ℕ) (ends : Bool) (low : Option (List ℕ)) (text : List ℕ) (t : Term) → (b == k) ≡ true
    → ToTail front f ends low text t → ToTail (k ∷ front) f ends low (b ∷ text) t
letter_goes k b front f ends low text t is (high, back, eq, to_high, same) = (high, back, cons_is k b text _ is eq, to_high, same)

pub part_goes : (x : Part) (b : ℕ) (text : List ℕ) (t : Term) → Holds (λ y. ToTerm y text t) (part_step x b) → ToTerm x (b ∷ text) t
part_goes part.EveryColon b text t =
    λ h0. if_some (λ (y : Part). ToTerm y text t) (ToTerm part.EveryColon (b ∷ text) t) (b == 58) (Some part.EveryStar) None h0 (λ is (eq, same). (cons_is 58 b text _ is eq, same)) (λ _ h. absurd h)
part_goes part.EveryStar b text t =
    λ h0. if_some (λ (y : Part). ToTerm y text t) (ToTerm part.EveryStar (b ∷ text) t) (b == 42) (Some (part.Whole Every)) None h0 (λ is (eq, same). (cons_is 42 b text _ is eq, same)) (λ _ h. absurd h)
part_goes (part.Field f) b text t =
    let P : Part → Type 0 = λ y. ToTerm y text t in
    let R : Type 0 = ToField f (b ∷ text) t in
    λ h. if_some P R (b == 58) (Some (part.ValueDue f)) (if b == 92 then (Some (part.FieldEscape f)) else (if is_field_byte b then (Some (part.Field (f ++ b ∷ []))) else None)) h
    (λ is (w, spelled, same). ([], w, [], text, cons_is 58 b text text is refl, refl, spelled, same ∙ ap (λ g. AtField g w) (sym (append-nil f))))
    (λ _ h. if_some P R (b == 92) (Some (part.FieldEscape f)) (if is_field_byte b then (Some (part.Field (f ++ b ∷ []))) else None) h
    (λ is (c, rest, eq, (g, w, front, value, parts, spelled, to_value, same)).
    (c ∷ g, w, b ∷ c ∷ front, value, ap (λ r. b ∷ r) (eq ∙ ap (λ r. c ∷ r) parts), (front, inr (cons_is 92 b (c ∷ front) (c ∷ front) is refl), spelled), to_value, same ∙ ap (λ v. AtField v w) (append_assoc f (c ∷ []) g)))
    (λ _ h. if_some P R (is_field_byte b) (Some (part.Field (f ++ b ∷ []))) None h
    (λ is (g, w, front, value, parts, spelled, to_value, same).
    (b ∷ g, w, b ∷ front, value, ap (λ r. b ∷ r) parts, (front, inl (refl, is), spelled), to_value, same ∙ ap (λ v. AtField v w) (append_assoc f (b ∷ []) g)))
    (λ _ h. absurd h)))
part_goes (part.FieldEscape f) b text t = λ h. (b, text, refl, h)
part_goes (part.ValueDue f) b text t = value_goes f b text t
part_goes (part.Quoted f w) b text t = quoted_goes f w b text t
part_goes (part.QuotedEscape f w) b text t = λ h. (b, text, refl, h)
part_goes (part.Word f w) b text t = λ h. let (s, u, spelled, same) = word_goes f w b text t h in (s ∷ u, spelled, same)
part_goes (part.WordEscape f w) b text t = λ h. (b, text, refl, h)
part_goes (part.Low f ends x) b text t =
    λ h0. if_some (λ (y : Part). ToTerm y text t) (ToTerm (part.Low f ends x) (b ∷ text) t) (b == 32) (low_end f ends x b (bound_end x)) (low_more f ends x b) h0
    (λ space h. low_end_goes f ends x b text t (bound_end x) refl space h)
    (λ _ h. low_more_goes f ends x b text t (bound_step x b) refl h)
part_goes (part.ToT f ends low) b text t =
    λ h0. if_some (λ (y : Part). ToTerm y text t) (ToTerm (part.ToT f ends low) (b ∷ text) t) (b == 84) (Some (part.ToO f ends low)) None h0 (λ is h. letter_goes 84 b (codes "O ") f ends low text t is h) (λ _ h. absurd h)
part_goes (part.ToO f ends low) b text t =
    λ h0. if_some (λ (y : Part). ToTerm y text t) (ToTerm (part.ToO f ends low) (b ∷ text) t) (b == 79) (Some (part.ToEnd f ends low)) None h0 (λ is h. letter_goes 79 b (codes " ") f ends low text t is h) (λ _ h. absurd h)
part_goes (part.ToEnd f ends low) b text t =
    λ h0. if_some (λ (y : Part). ToTerm y text t) (ToTerm (part.ToEnd f ends low) (b ∷ text) t) (b == 32) (Some (part.High f ends low bound.Due)) None h0 (λ is h. letter_goes 32 b [] f ends low text t is h) (λ _ h. absurd h)
part_goes (part.High f ends low x) b text t =
    λ h0. if_some (λ (y : Part). ToTerm y text t) (ToTerm (part.High f ends low x) (b ∷ text) t) (b == closing ends) (high_end f ends low x b (bound_end x)) (high_more f ends low x b) h0
    (λ closes h. high_end_goes f ends low x b text t (bound_end x) refl closes h)
    (λ _ h. high_more_goes f ends low x b text t (bound_step x b) refl h)
part_goes (part.Whole u) b text t = λ h. absurd h

-- a term that may end here has nothing more to come
pub term_ends : (x : Part) (t : Term) → ended x ≡ Some t → ToTerm x [] t
term_ends part.EveryColon t is = cc
term_ends part.EveryStar t is = cc
term_ends (part.Field f) t is = cc
term_ends (part.FieldEscape f) t is = cc
term_ends (part.ValueDue f) t is = cc
term_ends (part.Quoted f w) t is = cc
term_ends (part.QuotedEscape f w) t is = cc
term_ends (part.Word f w) t is = let same : AtField f (Like w) ≡ t = cc in ([], refl, sym same ∙ ap (λ v. AtField f (Like v)) (sym (append-nil w)))
term_ends (part.WordEscape f w) t is = cc
term_ends (part.Low f ends x) t is = cc
term_ends (part.ToT f ends low) t is = cc
term_ends (part.ToO f ends low) t is = cc
term_ends (part.ToEnd f ends low) t is = cc
term_ends (part.High f ends low x) t is = cc
term_ends (part.Whole u) t is = let same : u ≡ t = cc in (refl, sym same)
