-- How a word looks, and the value in a word `--OPTION=V`, as `clap` cuts it and as the grammar does.
use Rattle.std.proofs.Common.{◌≡◌, ℕ, true, false, ◌&&◌, ◌==◌, not, cond, List, [], ◌∷◌, ◌++◌, length, drop, Option, Some, None, is_some, option_and_then, codes, nat_eq, refl, sym, ap, ◌∙◌, subst, inl, inr, ◌+◌, ◌<◌, suc, arith}
use Rattle.std.specs.Str.{bytes_eq, chars, IsUtf8}
use Rattle.std.specs.Borrow.{Bor}
use Rattle.std.specs.List.{All, position_or_len, starts_with}
use Rattle.std.proofs.lemmas.List.Elements.{All-cons, All-nil}
use Rattle.std.proofs.lemmas.Bool.{cases_Bool, eq-eqb, eqb-true, eqb-false, ne_eqb, or_cases, or_parts}
use Rattle.std.proofs.lemmas.Slice.Eq.{bytes_eq-Decides}
use Rattle.std.proofs.Math.Bool.{and-false}
use Rattle.std.proofs.lemmas.Str.{IsUtf8-past_char, encode_ascii, encodes-chars}
use lib.Utf8.{encode}
use Rattle.clap.specs.Lexer.{has_byte, name_and_value}
use Rattle.command_words.specs.Words.{behind_front, joined_value, next_value}
use Rattle.command_words.specs.Options.{IsPlainWord, is_lone}

-- a word that isn't lone: nothing, one that doesn't begin with `-`, `-abc`, or `--abc`
pub data Word : List ℕ → Type 0 where
  empty : Word []
  bare : (c : ℕ) (cs : List ℕ) → (c == 45) ≡ false → Word (c ∷ cs)
  short : (c : ℕ) (cs : List ℕ) → (c == 45) ≡ false → (z : ℕ) (zs : List ℕ) → chars (c ∷ cs) ≡ z ∷ zs → Word (45 ∷ c ∷ cs)
  long : (c : ℕ) (cs : List ℕ) → Word (45 ∷ 45 ∷ c ∷ cs)

-- a text that isn't empty has a first character
first_char : (c : ℕ) (cs : List ℕ) → IsUtf8 (c ∷ cs) → (z : ℕ) × (zs : List ℕ) × (chars (c ∷ cs) ≡ z ∷ zs)
first_char c cs utf8 = go (chars (c ∷ cs)) refl
  where
    go : (us : List ℕ) → chars (c ∷ cs) ≡ us → (z : ℕ) × (zs : List ℕ) × (chars (c ∷ cs) ≡ z ∷ zs)
    go [] none =
        let e = encodes-chars (c ∷ cs) utf8 in
        cc (rw none at e)
    go (z ∷ zs) some = (z, zs, some)

pub word_of : (w : List ℕ) → IsPlainWord w → Word w
word_of [] plain = empty
word_of (c ∷ cs) plain = elim (cases_Bool (c == 45)) [
  | inl dash ↦ subst (λ x. Word (x ∷ cs)) (sym (eqb-true c 45 dash)) (dashed cs (subst (λ x. IsPlainWord (x ∷ cs)) (eqb-true c 45 dash) plain))
  | inr other ↦ bare c cs other
]
  where
    twice : (ds : List ℕ) → IsPlainWord (45 ∷ 45 ∷ ds) → Word (45 ∷ 45 ∷ ds)
    twice [] plain = cc plain.not_lone
    twice (d ∷ ds) plain = long d ds

    dashed : (ds : List ℕ) → IsPlainWord (45 ∷ ds) → Word (45 ∷ ds)
    dashed [] plain = cc plain.not_lone
    dashed (d ∷ ds) plain = elim (cases_Bool (d == 45)) [
      | inl dash ↦ subst (λ x. Word (45 ∷ x ∷ ds)) (sym (eqb-true d 45 dash)) (twice ds (subst (λ x. IsPlainWord (45 ∷ x ∷ ds)) (eqb-true d 45 dash) plain))
      | inr other ↦
          let spelled : 45 ∷ d ∷ ds ≡ encode 45 ++ (d ∷ ds) = ap (λ (e : List ℕ). e ++ (d ∷ ds)) (sym (encode_ascii 45 (omega arith))) in
          let first = first_char d ds (IsUtf8-past_char (45 ∷ d ∷ ds) (d ∷ ds) 45 plain.utf8 spelled) in
          short d ds other first.0 first.1 first.2
    ]

abbrev Cut : Type 0
Cut = List ℕ × Option (List ℕ)

-- the value of the option o in the text behind two hyphens
abbrev pub value_at : List ℕ → List ℕ → Option (List ℕ)
value_at o r = option_and_then (behind_front (codes "=")) (behind_front o r)

-- a text cut at its first `=`, where that stands first and where it doesn't
cut_here : (xs : List ℕ) → name_and_value (61 ∷ xs) ≡ ([], Some xs)
cut_here xs = refl

cut_later : (x : ℕ) (xs : List ℕ) → (x == 61) ≡ false → name_and_value (x ∷ xs) ≡ (x ∷ (name_and_value xs).0, (name_and_value xs).1)
cut_later x xs other =
    let n = position_or_len (λ y. y == 61) xs in
    let one : 1 + n ≡ suc n = omega arith in
    let two : suc n + 1 ≡ suc (n + 1) = omega arith in
    rw (other, one, two) refl

pub other_sign : (x y : ℕ) → (x == y) ≡ false → (y == x) ≡ false
other_sign x y other = ne_eqb y x (λ e. eqb-false x y other (sym e))

-- where the name that `clap` cuts off is the option, the value is what the grammar says, and where it isn't the grammar says none
pub value_cut : (o r : List ℕ) → has_byte 61 o ≡ false
    → cond (bytes_eq o (name_and_value r).0) (name_and_value r).1 None ≡ value_at o r
value_cut [] [] plain = refl
value_cut (a ∷ o) [] plain = refl
value_cut [] (x ∷ r) plain = elim (cases_Bool (x == 61)) [
  | inl sign ↦ rw (eqb-true x 61 sign) refl
  | inr other ↦
      let none : None ≡ value_at [] (x ∷ r) = rw (other_sign x 61 other) refl in
      ap (λ (n : Cut). cond (bytes_eq [] n.0) n.1 None) (cut_later x r other) ∙ none
]
value_cut (a ∷ o) (x ∷ r) plain =
    let parts = or_parts (a == 61) (has_byte 61 o) plain in
    elim (cases_Bool (x == 61)) [
      | inl sign ↦ rw (eqb-true x 61 sign, parts.0) refl
      | inr other ↦
          ap (λ (n : Cut). cond (bytes_eq (a ∷ o) n.0) n.1 None) (cut_later x r other)
          ∙ elim (a == x) as (λ b. cond (b && bytes_eq o (name_and_value r).0) (name_and_value r).1 None
          ≡ option_and_then (behind_front (codes "=")) (cond (b && starts_with nat_eq r o) (Some (drop (length o) r)) None))
          [ true ↦ value_cut o r parts.1 | false ↦ refl ]
    ]

-- a text is the option where its name is and it has no value
pub whole_cut : (o r : List ℕ) → has_byte 61 o ≡ false → bytes_eq r o ≡ (bytes_eq o (name_and_value r).0 && not (is_some (name_and_value r).1))
whole_cut [] [] plain = refl
whole_cut (a ∷ o) [] plain = refl
whole_cut [] (x ∷ r) plain = elim (cases_Bool (x == 61)) [
  | inl sign ↦ rw (eqb-true x 61 sign) refl
  | inr other ↦ ap (λ (n : Cut). bytes_eq [] n.0 && not (is_some n.1)) (sym (cut_later x r other))
]
whole_cut (a ∷ o) (x ∷ r) plain =
    let parts = or_parts (a == 61) (has_byte 61 o) plain in
    elim (cases_Bool (x == 61)) [
      | inl sign ↦ rw (eqb-true x 61 sign, other_sign a 61 parts.0) refl
      | inr other ↦
          let later = ap (λ (n : Cut). bytes_eq (a ∷ o) n.0 && not (is_some n.1)) (sym (cut_later x r other)) in
          elim (cases_Bool (a == x)) [
            | inl same ↦
                let here : bytes_eq (x ∷ r) (a ∷ o) ≡ bytes_eq r o = rw (eq-eqb x a (sym (eqb-true a x same))) refl in
                let there : (bytes_eq o (name_and_value r).0 && not (is_some (name_and_value r).1))
                ≡ (bytes_eq (a ∷ o) (x ∷ (name_and_value r).0) && not (is_some (name_and_value r).1)) = rw same refl in
                here ∙ whole_cut o r parts.1 ∙ there ∙ later
            | inr apart ↦
                let here : bytes_eq (x ∷ r) (a ∷ o) ≡ false = rw (other_sign a x apart) refl in
                let there : false ≡ (bytes_eq (a ∷ o) (x ∷ (name_and_value r).0) && not (is_some (name_and_value r).1)) = rw apart refl in
                here ∙ there ∙ later
          ]
    ]

-- such words don't begin with two hyphens
pub bare_begins : (c : ℕ) (cs : List ℕ) → (c == 45) ≡ false → starts_with nat_eq (c ∷ cs) (45 ∷ 45 ∷ []) ≡ false
bare_begins c cs other = rw (other_sign c 45 other) refl

pub short_begins : (c : ℕ) (cs : List ℕ) → (c == 45) ≡ false → starts_with nat_eq (45 ∷ c ∷ cs) (45 ∷ 45 ∷ []) ≡ false
short_begins c cs other = rw (other_sign c 45 other) refl

-- a word that begins otherwise than with two hyphens has no value of an option, and is none
pub no_value : (o w : List ℕ) → starts_with nat_eq w (45 ∷ 45 ∷ []) ≡ false
    → (joined_value (45 ∷ 45 ∷ o) w ≡ None) × (bytes_eq w (45 ∷ 45 ∷ o) ≡ false)
no_value o [] other = (refl, refl)
no_value o (c ∷ []) other = elim (cases_Bool (c == 45)) [
  | inl dash ↦ rw (eqb-true c 45 dash) (refl, refl)
  | inr apart ↦ rw (apart, other_sign c 45 apart) (refl, refl)
]
no_value o (c ∷ d ∷ cs) other = elim (cases_Bool (c == 45)) [
  | inr apart ↦ rw (apart, other_sign c 45 apart) (refl, refl)
  | inl dash ↦ elim (cases_Bool (d == 45)) [
    | inr apart ↦ rw (eqb-true c 45 dash, apart, other_sign d 45 apart) (refl, refl)
    | inl twice ↦ let bad : true ≡ false = rw (eqb-true c 45 dash, eqb-true d 45 twice) at other in cc
  ]
]

-- a lone word is no option with a name, and no value that stands alone
pub lone_option : (o w v : List ℕ) → 0 < length o → is_lone w ≡ true → None ≡ next_value (45 ∷ 45 ∷ o) w v
lone_option [] w v named lone = absurd (omega arith)
lone_option (a ∷ o) w v named lone = elim (or_cases (bytes_eq w (codes "-")) (bytes_eq w (codes "--")) lone) [
  | inl one ↦ rw ((bytes_eq-Decides w (codes "-")).0 one) refl
  | inr two ↦ rw ((bytes_eq-Decides w (codes "--")).0 two) refl
]

pub lone_value : (o w v : List ℕ) → is_lone v ≡ true → None ≡ next_value (45 ∷ 45 ∷ o) w v
lone_value o w v lone = elim (or_cases (bytes_eq v (codes "-")) (bytes_eq v (codes "--")) lone) [
  | inl one ↦ rw ((bytes_eq-Decides v (codes "-")).0 one, and-false) refl
  | inr two ↦ rw ((bytes_eq-Decides v (codes "--")).0 two, and-false) refl
]

-- two words of which neither is lone
pub two_plain : (w v : Bor (List ℕ)) → IsUtf8 w.now × IsUtf8 v.now → is_lone w.now ≡ false → is_lone v.now ≡ false
    → All (λ word. IsPlainWord word.now) (w ∷ v ∷ [])
two_plain w v utf8 first second =
    All-cons (λ word. IsPlainWord word.now) w (v ∷ []) (record { utf8 = utf8.0; not_lone = first })
    (All-cons (λ word. IsPlainWord word.now) v [] (record { utf8 = utf8.1; not_lone = second }) (All-nil (λ word. IsPlainWord word.now)))
