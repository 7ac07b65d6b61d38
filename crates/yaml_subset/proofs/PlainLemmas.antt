-- Plain texts, keys and numbers as they are written read back.
use Rattle.std.proofs.Common.{◌≡◌, ◌==◌, ◌<◌, ◌≤◌, ◌^◌, ◌&&◌, ◌||◌, ℕ, zero, suc, ℤ, pos, negsuc, Bool, true, false, nat_le, nat_lt, is_some, bytes_eq, List, [], ◌∷◌, ◌++◌, length, get_or, Option, Some, None, option_map, IsUtf8, if◌then◌else◌, inl, inr, refl, ap, ap₂, sym, subst, ◌∙◌, arith, append-nil}
use Rattle.std.proofs.lemmas.Bool.{agree_below, agree_below_at, and_parts, and_from, and_cases, and_left, and_right, or_from, or_parts, cases_lt, cond-true, cond-false, eq-eqb, both_ways, lt-ltb, le-leb, lt-leb, leb-true, ne_eqb}
use Rattle.std.proofs.lemmas.Fmt.{decimal_digit, decimal_is_IsNumeral, first_decimal}
use Rattle.std.proofs.lemmas.Int.{ints}
use Rattle.std.proofs.lemmas.Str.Parse.{digit_from_value}
use Rattle.std.specs.Char.{digit_value, is_ascii_alphabetic}
use Rattle.std.specs.Fmt.{decimal, signed_decimal}
use Rattle.std.specs.List.{list_all}
use Rattle.std.specs.Str.Parse.{AllDigits, digits_value}
use Rattle.doc_tree.specs.Doc.{Doc, whole, words}
use Rattle.doc_tree.specs.Number.{IsWhole}
use Rattle.yaml_subset.specs.Scalar.{all_digits, are_digits, behind_digits, decimal_meaning, doc_with, ends_fraction, is_digit, is_false, is_float, is_infinity, is_minus, is_not_a_number, is_null, is_plain, is_point_digits, is_true, is_unsigned_float, meaning, number_of, plain_doc, unsigned, whole_meaning}
use Rattle.yaml_subset.specs.Signs.{colon_at, is_apart, is_indicator, is_marker, is_tail, later, trimmed}
use Rattle.yaml_subset.specs.Written.{is_bare, is_inner, is_word}
use Rattle.yaml_subset.specs.declared.scalar.Means.{Means}
use Rattle.yaml_subset.specs.declared.scalar.Means.TheVariants.{Words}
use Rattle.yaml_subset.proofs.CutLemmas.{all_weaker, is_inline, none_if}
use Rattle.yaml_subset.proofs.ScalarLemmas.{not_zero}
use Rattle.yaml_subset.proofs.TextsLemmas.{text_in_is}

-- ---- tests of ASCII bytes, by a table

-- no byte that passes the one test passes the other
pub apart_by_table : (f g : ℕ → Bool) → ((b : ℕ) → f b ≡ true → b < 128) → agree_below (λ b. f b && g b) (λ b. false) 128 ≡ true → (b : ℕ) → f b ≡ true → g b ≡ false
apart_by_table f g ascii table b is = elim (and_cases (f b) (g b) (agree_below_at (λ b. f b && g b) (λ b. false) 128 b table (ascii b is))) [
  | inl no_ ↦ absurd (both_ways (f b) no_ is)
  | inr no_ ↦ no_
]

-- a letter or a slash
abbrev pub is_first : ℕ → Bool
is_first b = is_ascii_alphabetic b || b == 47

past_range : (low high b : ℕ) → high < b → (nat_le low b && nat_le b high) ≡ false
past_range low high b less = and_right _ _ (lt-leb b high less)

pub first_ascii : (b : ℕ) → is_first b ≡ true → b < 128
first_ascii b is = elim (cases_lt b 128) [
  | inl low ↦ low
  | inr high ↦ absurd (both_ways (is_first b) (or_from _ _ (or_from _ _ (past_range 65 90 b (omega arith)) (past_range 97 122 b (omega arith))) (ne_eqb b 47 (λ e. omega arith))) is)
]

pub inner_ascii : (b : ℕ) → is_inner b ≡ true → b < 128
inner_ascii b is = elim (cases_lt b 128) [
  | inl low ↦ low
  | inr high ↦ absurd (both_ways (is_inner b) (or_from _ _ (or_from _ _ (past_range 65 90 b (omega arith)) (past_range 97 122 b (omega arith))) (or_from _ _ (past_range 48 57 b (omega arith)) (or_from _ _ (ne_eqb b 95 (λ e. omega arith)) (or_from _ _ (ne_eqb b 46 (λ e. omega arith)) (or_from _ _ (ne_eqb b 47 (λ e. omega arith)) (ne_eqb b 45 (λ e. omega arith))))))) is)
]

pub digit_ascii : (b : ℕ) → is_digit b ≡ true → b < 128
digit_ascii b is = let top : b ≤ 57 = leb-true b 57 (and_parts (nat_le 48 b) (nat_le b 57) is).1 in omega arith

-- ---- texts without spaces and colons

abbrev pub is_tight : ℕ → Bool
is_tight b = if b == 32 || b == 58 then false else true

tight_from : (b : ℕ) → (b == 32 || b == 58) ≡ false → is_tight b ≡ true
tight_from b no_ = cond-false (b == 32 || b == 58) false true no_

pub tight_parts : (b : ℕ) → is_tight b ≡ true → ((b == 32) ≡ false) × ((b == 58) ≡ false)
tight_parts b h = or_parts _ _ (none_if (b == 32 || b == 58) h)

pub trimmed_tight : (text rest : List ℕ) → list_all is_tight text ≡ true → trimmed (text ++ rest) ≡ text ++ trimmed rest
trimmed_tight [] rest all = refl
trimmed_tight (b ∷ text) rest all =
    let p = and_parts _ _ all in
    cond-false (is_tail (b ∷ (text ++ rest))) [] (b ∷ trimmed (text ++ rest)) (and_left _ _ (tight_parts b p.0).0) ∙ ap (λ (l : List ℕ). b ∷ l) (trimmed_tight text rest p.1)

later_front : (i : ℕ) (o : Option ℕ) → later 1 (later i o) ≡ later (suc i) o
later_front i None = refl
later_front i (Some n) = ap Some (omega arith)

later_zero : (o : Option ℕ) → o ≡ later 0 o
later_zero None = refl
later_zero (Some n) = ap Some (omega arith)

pub colon_tight : (text rest : List ℕ) → list_all is_tight text ≡ true → colon_at (text ++ rest) ≡ later (length text) (colon_at rest)
colon_tight [] rest all = later_zero (colon_at rest)
colon_tight (b ∷ text) rest all =
    let p = and_parts _ _ all in
    cond-false (b == 58 && is_apart (text ++ rest)) (Some 0) (later 1 (colon_at (text ++ rest))) (and_left _ _ (tight_parts b p.0).1) ∙ ap (later 1) (colon_tight text rest p.1) ∙ later_front (length text) (colon_at rest)

pub trimmed_whole : (text : List ℕ) → list_all is_tight text ≡ true → trimmed text ≡ text
trimmed_whole text all = ap trimmed (sym (append-nil text)) ∙ trimmed_tight text [] all ∙ append-nil text

pub colon_none : (text : List ℕ) → list_all is_tight text ≡ true → colon_at text ≡ None
colon_none text all = ap colon_at (sym (append-nil text)) ∙ colon_tight text [] all

-- ---- plain scalars

-- how a plain text begins
pub record Begins (b : ℕ) (text : List ℕ) : Type 0 where
  pub tight : list_all is_tight (b ∷ text) ≡ true
  pub indicator : is_indicator b ≡ false
  pub dash : (b == 45 && is_apart text) ≡ false
  pub sign : ((b == 45 || (b == 63 || b == 58)) && is_apart text) ≡ false
  pub hash : (b == 35) ≡ false
  pub tab : (b == 9) ≡ false
  pub bar : (b == 124) ≡ false
  pub quote : (b == 34 || b == 39) ≡ false
  pub bracket : (b == 91 || b == 123) ≡ false

pub plain_is : (b : ℕ) (text : List ℕ) → Begins b text → is_plain (b ∷ text) ≡ true
plain_is b text h =
    cond-false (is_indicator b) _ _ h.indicator ∙ cond-false ((b == 45 || (b == 63 || b == 58)) && is_apart text) _ _ h.sign
    ∙ ap (λ (o : Option ℕ). if is_some o then false else true) (colon_none (b ∷ text) h.tight)

pub plain_back : (b : ℕ) (text : List ℕ) (d : Doc) → Begins b text → doc_with (meaning (b ∷ text)) (b ∷ text) ≡ Some d → plain_doc (b ∷ text) ≡ Some d
plain_back b text d h is = cond-true (is_plain (b ∷ text)) _ _ (plain_is b text h) ∙ is

-- ---- what a plain text means

word_apart : (b n : ℕ) (text word : List ℕ) → (b == n) ≡ false → bytes_eq (b ∷ text) (n ∷ word) ≡ false
word_apart b n text word no_ = and_left _ _ no_

-- a text that is no word and no number but a whole one
pub record Wordless (text : List ℕ) : Type 0 where
  pub null : is_null text ≡ false
  pub true_ : is_true text ≡ false
  pub false_ : is_false text ≡ false
  pub float : is_float text ≡ false

wordless_meaning : (text : List ℕ) → Wordless text → meaning text ≡ whole_meaning text
wordless_meaning text h = cond-false (is_null text) _ _ h.null ∙ cond-false (is_true text) _ _ h.true_ ∙ cond-false (is_false text) _ _ h.false_ ∙ cond-false (is_float text) _ _ h.float

-- ---- bare texts

-- what a bare text is made of
pub record Bare (b : ℕ) (s : List ℕ) : Type 0 where
  pub first : is_first b ≡ true
  pub inner : list_all is_inner s ≡ true
  pub word : is_word (b ∷ s) ≡ false

pub bare_parts : (b : ℕ) (s : List ℕ) → is_bare (b ∷ s) ≡ true → Bare b s
bare_parts b s is = let p = and_parts _ _ is in let q = and_parts _ _ p.1 in record { first = p.0; inner = q.0; word = none_if (is_word (b ∷ s)) q.1 }

first_not : (g : ℕ → Bool) (b : ℕ) → agree_below (λ b. is_first b && g b) (λ b. false) 128 ≡ true → is_first b ≡ true → g b ≡ false
first_not g b table is = apart_by_table is_first g first_ascii table b is

inner_not : (g : ℕ → Bool) (b : ℕ) → agree_below (λ b. is_inner b && g b) (λ b. false) 128 ≡ true → is_inner b ≡ true → g b ≡ false
inner_not g b table is = apart_by_table is_inner g inner_ascii table b is

bare_tight : (b : ℕ) (s : List ℕ) → Bare b s → list_all is_tight (b ∷ s) ≡ true
bare_tight b s h =
    and_from _ _ (tight_from b (first_not (λ b. b == 32 || b == 58) b refl h.first))
    (all_weaker is_inner is_tight (λ b is. tight_from b (inner_not (λ b. b == 32 || b == 58) b refl is)) s h.inner)

pub bare_begins : (b : ℕ) (s : List ℕ) → Bare b s → Begins b s
bare_begins b s h = record {
  tight = bare_tight b s h;
  indicator = first_not is_indicator b refl h.first;
  dash = and_left _ _ (first_not (λ b. b == 45) b refl h.first);
  sign = and_left _ _ (first_not (λ b. b == 45 || (b == 63 || b == 58)) b refl h.first);
  hash = first_not (λ b. b == 35) b refl h.first;
  tab = first_not (λ b. b == 9) b refl h.first;
  bar = first_not (λ b. b == 124) b refl h.first;
  quote = first_not (λ b. b == 34 || b == 39) b refl h.first;
  bracket = first_not (λ b. b == 91 || b == 123) b refl h.first;
}

bare_unsigned : (b : ℕ) (s : List ℕ) → Bare b s → unsigned (b ∷ s) ≡ b ∷ s
bare_unsigned b s h = cond-false (b == 43 || b == 45) s (b ∷ s) (first_not (λ b. b == 43 || b == 45) b refl h.first)

bare_float : (b : ℕ) (s : List ℕ) → Bare b s → is_float (b ∷ s) ≡ false
bare_float b s h =
    let point : (b == 46) ≡ false = first_not (λ b. b == 46) b refl h.first in
    let infinity : is_infinity (b ∷ s) ≡ false = or_from _ _ (word_apart b 46 s _ point) (or_from _ _ (word_apart b 46 s _ point) (word_apart b 46 s _ point)) in
    let not_number : is_not_a_number (b ∷ s) ≡ false = or_from _ _ (word_apart b 46 s _ point) (or_from _ _ (word_apart b 46 s _ point) (word_apart b 46 s _ point)) in
    let digits : is_point_digits (b ∷ s) ≡ false = cond-false (b == 46) _ _ point in
    let behind : is_unsigned_float (b ∷ s) ≡ false = cond-false (is_digit b) (ends_fraction (behind_digits (b ∷ s))) (is_point_digits (b ∷ s) || is_infinity (b ∷ s)) (first_not is_digit b refl h.first) ∙ or_from _ _ digits infinity in
    or_from _ _ (ap is_unsigned_float (bare_unsigned b s h) ∙ behind) not_number

bare_decimal : (minus : Bool) (b : ℕ) (s : List ℕ) → is_first b ≡ true → decimal_meaning minus (b ∷ s) ≡ Words
bare_decimal minus b [] first = cond-false (is_digit b) _ _ (first_not is_digit b refl first)
bare_decimal minus b (c ∷ s) first =
    cond-false (b == 48) _ _ (first_not (λ b. b == 48) b refl first) ∙ cond-false (are_digits 10 (b ∷ c ∷ s)) _ _ (and_left _ _ (first_not (λ b. nat_lt (digit_value b) 10) b refl first))

pub bare_meaning : (b : ℕ) (s : List ℕ) → Bare b s → meaning (b ∷ s) ≡ Words
bare_meaning b s h =
    let p = or_parts _ _ h.word in
    let q = or_parts _ _ p.1 in
    wordless_meaning (b ∷ s) (record { null = p.0; true_ = q.0; false_ = q.1; float = bare_float b s h })
    ∙ not_zero (b ∷ s) (λ e. both_ways (b == 48) (first_not (λ b. b == 48) b refl h.first) (eq-eqb b 48 e))
    ∙ ap (decimal_meaning (is_minus (b ∷ s))) (bare_unsigned b s h) ∙ bare_decimal (is_minus (b ∷ s)) b s h.first

pub bare_back : (b : ℕ) (s : List ℕ) → Bare b s → IsUtf8 (b ∷ s) → plain_doc (b ∷ s) ≡ Some (words (b ∷ s))
bare_back b s h u = plain_back b s (words (b ∷ s)) (bare_begins b s h) (ap (λ (m : Means). doc_with m (b ∷ s)) (bare_meaning b s h) ∙ ap (option_map words) (text_in_is (b ∷ s) u))

-- ---- numbers

digits_all : (ds : List ℕ) → AllDigits 10 ds → list_all is_digit ds ≡ true
digits_all [] all = refl
digits_all (d ∷ ds) all = let range = digit_from_value d all.0 in and_from _ _ (and_from _ _ (le-leb 48 d range.0) (le-leb d 57 range.1)) (digits_all ds all.1)

digits_ten : (ds : List ℕ) → AllDigits 10 ds → all_digits 10 ds ≡ true
digits_ten [] all = refl
digits_ten (d ∷ ds) all = and_from _ _ (lt-ltb _ _ all.0) (digits_ten ds all.1)

behind_none : (ds : List ℕ) → list_all is_digit ds ≡ true → behind_digits ds ≡ []
behind_none [] all = refl
behind_none (d ∷ ds) all = let p = and_parts _ _ all in cond-true (is_digit d) _ _ p.0 ∙ behind_none ds p.1

digit_not : (g : ℕ → Bool) (b : ℕ) → agree_below (λ b. is_digit b && g b) (λ b. false) 128 ≡ true → is_digit b ≡ true → g b ≡ false
digit_not g b table is = apart_by_table is_digit g digit_ascii table b is

digits_tight : (ds : List ℕ) → list_all is_digit ds ≡ true → list_all is_tight ds ≡ true
digits_tight ds all = all_weaker is_digit is_tight (λ b is. tight_from b (digit_not (λ b. b == 32 || b == 58) b refl is)) ds all

digits_begin : (d : ℕ) (ds : List ℕ) → list_all is_digit (d ∷ ds) ≡ true → Begins d ds
digits_begin d ds all =
    let first = (and_parts _ _ all).0 in
    record {
      tight = digits_tight (d ∷ ds) all;
      indicator = digit_not is_indicator d refl first;
      dash = and_left _ _ (digit_not (λ b. b == 45) d refl first);
      sign = and_left _ _ (digit_not (λ b. b == 45 || (b == 63 || b == 58)) d refl first);
      hash = digit_not (λ b. b == 35) d refl first;
      tab = digit_not (λ b. b == 9) d refl first;
      bar = digit_not (λ b. b == 124) d refl first;
      quote = digit_not (λ b. b == 34 || b == 39) d refl first;
      bracket = digit_not (λ b. b == 91 || b == 123) d refl first;
    }

minus_begins : (d : ℕ) (ds : List ℕ) → list_all is_digit (d ∷ ds) ≡ true → Begins 45 (d ∷ ds)
minus_begins d ds all =
    let apart : (d == 32) ≡ false = digit_not (λ b. b == 32) d refl (and_parts _ _ all).0 in
    record {
      tight = digits_tight (d ∷ ds) all;
      indicator = refl;
      dash = apart;
      sign = apart;
      hash = refl;
      tab = refl;
      bar = refl;
      quote = refl;
      bracket = refl;
    }

-- digits are no number with a point or an exponent
digits_whole : (d : ℕ) (ds : List ℕ) → list_all is_digit (d ∷ ds) ≡ true → is_unsigned_float (d ∷ ds) ≡ false
digits_whole d ds all = cond-true (is_digit d) (ends_fraction (behind_digits (d ∷ ds))) (is_point_digits (d ∷ ds) || is_infinity (d ∷ ds)) (and_parts _ _ all).0 ∙ ap ends_fraction (behind_none (d ∷ ds) all)

-- digits without a leading 0
digits_decimal : (minus : Bool) (d : ℕ) (ds : List ℕ) → AllDigits 10 (d ∷ ds) → (d == 48) ≡ false → decimal_meaning minus (d ∷ ds) ≡ number_of minus (digits_value 10 (d ∷ ds))
digits_decimal minus d [] all some = cond-true (is_digit d) _ _ (and_parts _ _ (digits_all (d ∷ []) all)).0
digits_decimal minus d (e ∷ ds) all some = cond-false (d == 48) _ _ some ∙ cond-true (are_digits 10 (d ∷ e ∷ ds)) _ _ (digits_ten (d ∷ e ∷ ds) all)

digits_unsigned : (d : ℕ) (ds : List ℕ) → list_all is_digit (d ∷ ds) ≡ true → unsigned (d ∷ ds) ≡ d ∷ ds
digits_unsigned d ds all = cond-false (d == 43 || d == 45) ds (d ∷ ds) (digit_not (λ b. b == 43 || b == 45) d refl (and_parts _ _ all).0)

no_word : (d : ℕ) (ds word : List ℕ) (n : ℕ) → agree_below (λ b. is_digit b && (b == n)) (λ b. false) 128 ≡ true → is_digit d ≡ true → bytes_eq (d ∷ ds) (n ∷ word) ≡ false
no_word d ds word n table is = word_apart d n ds word (digit_not (λ b. b == n) d table is)

digits_wordless : (d : ℕ) (ds : List ℕ) → list_all is_digit (d ∷ ds) ≡ true → Wordless (d ∷ ds)
digits_wordless d ds all =
    let first = (and_parts _ _ all).0 in
    let point : is_not_a_number (d ∷ ds) ≡ false = or_from _ _ (no_word d ds _ 46 refl first) (or_from _ _ (no_word d ds _ 46 refl first) (no_word d ds _ 46 refl first)) in
    record {
      null = or_from _ _ (no_word d ds _ 110 refl first) (or_from _ _ (no_word d ds _ 78 refl first) (or_from _ _ (no_word d ds _ 78 refl first) (no_word d ds _ 126 refl first)));
      true_ = or_from _ _ (no_word d ds _ 116 refl first) (or_from _ _ (no_word d ds _ 84 refl first) (no_word d ds _ 84 refl first));
      false_ = or_from _ _ (no_word d ds _ 102 refl first) (or_from _ _ (no_word d ds _ 70 refl first) (no_word d ds _ 70 refl first));
      float = or_from _ _ (ap is_unsigned_float (digits_unsigned d ds all) ∙ digits_whole d ds all) point;
    }

digits_meaning : (d : ℕ) (ds : List ℕ) → AllDigits 10 (d ∷ ds) → (d == 48) ≡ false → meaning (d ∷ ds) ≡ number_of false (digits_value 10 (d ∷ ds))
digits_meaning d ds all some =
    let tests = digits_all (d ∷ ds) all in
    wordless_meaning (d ∷ ds) (digits_wordless d ds tests)
    ∙ not_zero (d ∷ ds) (λ e. both_ways (d == 48) some (eq-eqb d 48 e))
    ∙ ap₂ decimal_meaning (digit_not (λ b. b == 45) d refl (and_parts _ _ tests).0) (digits_unsigned d ds tests) ∙ digits_decimal false d ds all some

minus_meaning : (d : ℕ) (ds : List ℕ) → AllDigits 10 (d ∷ ds) → (d == 48) ≡ false → meaning (45 ∷ d ∷ ds) ≡ number_of true (digits_value 10 (d ∷ ds))
minus_meaning d ds all some =
    let tests = digits_all (d ∷ ds) all in
    wordless_meaning (45 ∷ d ∷ ds) (record { null = refl; true_ = refl; false_ = refl; float = or_from _ _ (digits_whole d ds tests) refl }) ∙ digits_decimal true d ds all some

digits_inline : (ds : List ℕ) → list_all is_digit ds ≡ true → list_all is_inline ds ≡ true
digits_inline ds all = all_weaker is_digit is_inline (λ b is. cond-false (b == 10 || b == 13) false true (digit_not (λ b. b == 10 || b == 13) b refl is)) ds all

-- the document of a number's text, and how the text begins
pub record Number (text : List ℕ) (z : ℤ) : Type 0 where
  pub first : ℕ
  pub after : List ℕ
  pub is : text ≡ first ∷ after
  pub begins : Begins first after
  pub marker : is_marker (first ∷ after) ≡ false
  pub inline : list_all is_inline (first ∷ after) ≡ true
  pub back : plain_doc (first ∷ after) ≡ Some (whole z)

number_at : (n : ℕ) (ds : List ℕ) → n < 2 ^ 64 → AllDigits 10 ds → 0 < length ds → digits_value 10 ds ≡ n → 48 < get_or ds 0 0 → Number ds (pos n)
number_at n [] small all some value lead = absurd (omega arith)
number_at n (d ∷ ds) small all some value lead =
    let tests = digits_all (d ∷ ds) all in
    let begins = digits_begin d ds tests in
    record {
      first = d;
      after = ds;
      is = refl;
      begins = begins;
      marker = or_from _ _ (and_left _ _ (digit_not (λ b. b == 45) d refl (and_parts _ _ tests).0)) (and_left _ _ (digit_not (λ b. b == 46) d refl (and_parts _ _ tests).0));
      inline = digits_inline (d ∷ ds) tests;
      back = plain_back d ds (whole (pos n)) begins (ap (λ (m : Means). doc_with m (d ∷ ds)) (digits_meaning d ds all (ne_eqb d 48 (λ e. omega arith)) ∙ ap (number_of false) value ∙ cond-true (nat_lt n (2 ^ 64)) _ _ (lt-ltb n (2 ^ 64) small)));
    }

minus_at : (n : ℕ) (ds : List ℕ) → suc n ≤ 2 ^ 63 → AllDigits 10 ds → 0 < length ds → digits_value 10 ds ≡ suc n → 48 < get_or ds 0 0 → Number (45 ∷ ds) (negsuc n)
minus_at n [] small all some value lead = absurd (omega arith)
minus_at n (d ∷ ds) small all some value lead =
    let tests = digits_all (d ∷ ds) all in
    let begins = minus_begins d ds tests in
    record {
      first = 45;
      after = d ∷ ds;
      is = refl;
      begins = begins;
      marker = or_from _ _ (and_left _ _ (digit_not (λ b. b == 45) d refl (and_parts _ _ tests).0)) refl;
      inline = digits_inline (d ∷ ds) tests;
      back = plain_back 45 (d ∷ ds) (whole (negsuc n)) begins (ap (λ (m : Means). doc_with m (45 ∷ d ∷ ds)) (minus_meaning d ds all (ne_eqb d 48 (λ e. omega arith)) ∙ ap (number_of true) value ∙ cond-true (nat_le (suc n) (2 ^ 63)) _ _ (le-leb (suc n) (2 ^ 63) small)));
    }

zero_at : Number (48 ∷ []) (pos 0)
zero_at = record { first = 48; after = []; is = refl; begins = digits_begin 48 [] refl; marker = refl; inline = refl; back = refl }

pub number_back : (z : ℤ) → IsWhole z → Number (signed_decimal z) z
number_back (pos zero) w = subst (λ (t : List ℕ). Number t (pos 0)) (sym (decimal_digit 0 (omega arith))) zero_at
number_back (pos (suc n)) w =
    let small : suc n < 2 ^ 64 = omega (arith, ints, w.1) in
    let numeral = decimal_is_IsNumeral (suc n) small in
    number_at (suc n) (decimal (suc n)) small numeral.0.1 numeral.0.0 numeral.1 (first_decimal (suc n) (omega arith) small)
number_back (negsuc n) w =
    let small : suc n ≤ 2 ^ 63 = omega (arith, ints, w.0) in
    let numeral = decimal_is_IsNumeral (suc n) (omega arith) in
    minus_at n (decimal (suc n)) small numeral.0.1 numeral.0.0 numeral.1 (first_decimal (suc n) (omega arith) (omega arith))
