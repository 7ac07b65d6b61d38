-- What is written between double quotes reads back.
use Rattle.std.proofs.Common.{◌≡◌, ◌==◌, ◌+◌, ◌-◌, ◌*◌, ◌<◌, ◌≤◌, ◌&&◌, ◌||◌, ℕ, suc, Bool, true, false, nat_le, nat_lt, List, [], ◌∷◌, ◌++◌, length, get_or, Option, Some, None, option_map, option_and_then, IsUtf8, encode_utf8, encode_utf8_all, chars, if◌then◌else◌, inl, inr, refl, ap, sym, subst, ◌∙◌, arith, append_assoc, append-nil, length-append}
use Rattle.std.proofs.lemmas.Bool.{and_parts, and_from, and_left, or_from, cases_eq, cases_lt, eq-eqb, cond-true, cond-false, leb-true, or_left, lt-ltb, le-ltb, le-leb, lt-leb, ne_eqb}
use Rattle.std.proofs.lemmas.Str.{digit_value-digit_char, encode_ascii, encodes-chars, inside_one}
use Rattle.std.specs.Char.{digit_char, digit_value}
use Rattle.std.specs.List.{list_all}
use Rattle.yaml_subset.specs.Quoted.{goes_on, hex_value, is_hex, is_surrogate, quoted, quoted_text, simple, taken, text_in, unicode}
use Rattle.yaml_subset.specs.Written.{char_text, escaped, hex_text}
use Rattle.yaml_subset.specs.declared.quoted.Stands.{Stands}
use Rattle.yaml_subset.specs.declared.quoted.Stands.TheVariants.{Escaped, Unicode, Wrong}
use Rattle.yaml_subset.proofs.CutLemmas.{all_append, is_inline}
use Rattle.yaml_subset.proofs.QuotedLemmas.{taken_more}
use Rattle.yaml_subset.proofs.TextsLemmas.{text_in_is}

taken_none : (o : Option (List ℕ × ℕ)) → taken [] 0 o ≡ o
taken_none None = refl
taken_none (Some p) = let n : 0 + p.1 ≡ p.1 = omega arith in ap (λ (n : ℕ). Some (p.0, n)) n

-- ---- characters above ASCII

abbrev is_high : ℕ → Bool
is_high b = nat_le 128 b

high_all : (bs : List ℕ) → ((k : ℕ) → k < length bs → 128 ≤ get_or bs k 0) → list_all is_high bs ≡ true
high_all [] h = refl
high_all (b ∷ bs) h = and_from _ _ (le-leb 128 b (h 0 (omega arith))) (high_all bs (λ k less. h (suc k) (omega arith)))

encoded_high : (c : ℕ) → 128 ≤ c → list_all is_high (encode_utf8 c) ≡ true
encoded_high c big = high_all (encode_utf8 c) (λ k less. elim (cases_lt (get_or (encode_utf8 c) k 0) 128) [
  | inl low ↦ absurd (omega (arith, inside_one c [] (encode_utf8 c) k (sym (append-nil _)) less low))
  | inr high ↦ high
])

-- a byte that isn't a quote or a backslash stands for itself
plain_byte : (b : ℕ) (text : List ℕ) → (b == 34) ≡ false → (b == 92) ≡ false → quoted 34 0 (b ∷ text) ≡ taken (b ∷ []) 1 (quoted 34 0 text)
plain_byte b text quote slash = rw (quote, slash) refl

high_reads : (bs text : List ℕ) → list_all is_high bs ≡ true → quoted 34 0 (bs ++ text) ≡ taken bs (length bs) (quoted 34 0 text)
high_reads [] text all = sym (taken_none (quoted 34 0 text))
high_reads (b ∷ bs) text all =
    let p = and_parts _ _ all in
    let big = leb_is b p.0 in
    plain_byte b (bs ++ text) (ne_eqb b 34 (λ e. omega arith)) (ne_eqb b 92 (λ e. omega arith)) ∙ ap (taken (b ∷ []) 1) (high_reads bs text p.1) ∙ taken_front b bs (quoted 34 0 text)
  where
    leb_is : (b : ℕ) → is_high b ≡ true → 128 ≤ b
    leb_is b h = leb-true 128 b h

    taken_front : (b : ℕ) (bs : List ℕ) (o : Option (List ℕ × ℕ)) → taken (b ∷ []) 1 (taken bs (length bs) o) ≡ taken (b ∷ bs) (length (b ∷ bs)) o
    taken_front b bs None = refl
    taken_front b bs (Some p) = let n : 1 + (length bs + p.1) ≡ suc (length bs) + p.1 = omega arith in ap (λ (n : ℕ). Some (b ∷ (bs ++ p.0), n)) n

-- ---- escapes

escape_reads : (c k : ℕ) (text : List ℕ) → c < 128 → (k == 117) ≡ false → simple k ≡ Escaped c → quoted 34 0 (92 ∷ k ∷ text) ≡ taken (encode_utf8 c) 2 (quoted 34 0 text)
escape_reads c k text low apart is =
    ap (λ (s : Stands). goes_on s (λ n. quoted 34 n (k ∷ text))) (cond-false (k == 117) (unicode text) (simple k) apart ∙ is)
    ∙ taken_more (c ∷ []) [] 1 (quoted 34 0 text) ∙ ap (λ (bs : List ℕ). taken bs 2 (quoted 34 0 text)) (sym (encode_ascii c low))

unicode_is : (a b c d n : ℕ) (text : List ℕ) → is_hex a ≡ true → is_hex b ≡ true → is_hex c ≡ true → is_hex d ≡ true → hex_value a b c d ≡ n → n < 128 → unicode (a ∷ b ∷ c ∷ d ∷ text) ≡ Unicode n
unicode_is a b c d n text ha hb hc hd is low =
    cond-true (is_hex a && (is_hex b && (is_hex c && is_hex d))) _ _ (and_from _ _ ha (and_from _ _ hb (and_from _ _ hc hd)))
    ∙ ap (λ (v : ℕ). if is_surrogate v then Wrong else Unicode v) is ∙ cond-false (is_surrogate n) Wrong (Unicode n) (and_left _ _ (lt-leb 0xD800 n (omega arith)))

hex_reads : (a b c : ℕ) (text : List ℕ) → unicode (48 ∷ 48 ∷ a ∷ b ∷ text) ≡ Unicode c → quoted 34 0 (92 ∷ 117 ∷ 48 ∷ 48 ∷ a ∷ b ∷ text) ≡ taken (encode_utf8 c) 6 (quoted 34 0 text)
hex_reads a b c text is =
    ap (λ (s : Stands). goes_on s (λ n. quoted 34 n (117 ∷ 48 ∷ 48 ∷ a ∷ b ∷ text))) is ∙ six (encode_utf8 c) (quoted 34 0 text)
  where
    six : (bs : List ℕ) (o : Option (List ℕ × ℕ)) → taken bs 1 (taken [] 1 (taken [] 1 (taken [] 1 (taken [] 1 (taken [] 1 o))))) ≡ taken bs 6 o
    six bs None = refl
    six bs (Some p) = let n : 1 + (1 + (1 + (1 + (1 + (1 + p.1))))) ≡ 6 + p.1 = omega arith in ap (λ (n : ℕ). Some (bs ++ p.0, n)) n

digit_hex : (d : ℕ) → d < 16 → is_hex (digit_char d) ≡ true
digit_hex d low = lt-ltb _ _ (omega (arith, digit_value-digit_char d (omega arith)))

one_digit : (c : ℕ) (text : List ℕ) → c < 16 → unicode (48 ∷ 48 ∷ 48 ∷ digit_char c ∷ text) ≡ Unicode c
one_digit c text low =
    unicode_is 48 48 48 (digit_char c) c text refl refl refl (digit_hex c low) (ap (λ (v : ℕ). ((digit_value 48 * 16 + digit_value 48) * 16 + digit_value 48) * 16 + v) (digit_value-digit_char c (omega arith)) ∙ omega arith) (omega arith)

two_digits : (c : ℕ) (text : List ℕ) → 16 ≤ c → c < 32 → unicode (48 ∷ 48 ∷ 49 ∷ digit_char (c - 16) ∷ text) ≡ Unicode c
two_digits c text high low =
    unicode_is 48 48 49 (digit_char (c - 16)) c text refl refl refl (digit_hex (c - 16) (omega arith))
    (ap (λ (v : ℕ). ((digit_value 48 * 16 + digit_value 48) * 16 + digit_value 49) * 16 + v) (digit_value-digit_char (c - 16) (omega arith)) ∙ omega arith) (omega arith)

-- what the text of a character comes to
abbrev Reads : ℕ → List ℕ → Type 0
Reads c t = (text : List ℕ) → quoted 34 0 (t ++ text) ≡ taken (encode_utf8 c) (length t) (quoted 34 0 text)

hex_text_reads : (c : ℕ) → c < 128 → (c ≡ 127 → ⊥) → c < 32 → Reads c (hex_text c)
hex_text_reads c ascii other low = elim (cases_lt c 16) [
  | inl one ↦ subst (Reads c) (sym (ap (λ t. 92 ∷ 117 ∷ 48 ∷ 48 ∷ t) (cond-true (nat_lt c 16) _ _ (lt-ltb c 16 one)))) (λ text. hex_reads 48 (digit_char c) c text (one_digit c text one))
  | inr two ↦ subst (Reads c) (sym (ap (λ t. 92 ∷ 117 ∷ 48 ∷ 48 ∷ t) (cond-false (nat_lt c 16) _ _ (le-ltb c 16 two) ∙ cond-true (nat_lt c 32) _ _ (lt-ltb c 32 low)))) (λ text. hex_reads 49 (digit_char (c - 16)) c text (two_digits c text two low))
]

other_reads : (c : ℕ) → (c ≡ 92 → ⊥) → (c ≡ 34 → ⊥) → Reads c (if nat_lt c 32 || c == 127 then hex_text c else encode_utf8 c)
other_reads c slash quote = elim (cases_eq c 127) [
  | inl e ↦ subst (λ (c : ℕ). Reads c (if nat_lt c 32 || c == 127 then hex_text c else encode_utf8 c)) (sym e) (λ text. hex_reads 55 102 127 text refl)
  | inr apart ↦ elim (cases_lt c 32) [
    | inl low ↦ subst (Reads c) (sym (cond-true (nat_lt c 32 || c == 127) (hex_text c) (encode_utf8 c) (or_left _ _ (lt-ltb c 32 low)))) (hex_text_reads c (omega arith) apart low)
    | inr high ↦ subst (Reads c) (sym (cond-false (nat_lt c 32 || c == 127) (hex_text c) (encode_utf8 c) (or_from _ _ (le-ltb c 32 high) (ne_eqb c 127 apart)))) (bytes_read c slash quote)
  ]
]
  where
    bytes_read : (c : ℕ) → (c ≡ 92 → ⊥) → (c ≡ 34 → ⊥) → Reads c (encode_utf8 c)
    bytes_read c slash quote text = elim (cases_lt c 128) [
      | inl low ↦ subst (λ (bs : List ℕ). quoted 34 0 (bs ++ text) ≡ taken bs (length bs) (quoted 34 0 text)) (sym (encode_ascii c low)) (plain_byte c text (ne_eqb c 34 quote) (ne_eqb c 92 slash))
      | inr high ↦ high_reads (encode_utf8 c) text (encoded_high c high)
    ]

-- ---- a text of characters

-- a choice by what a character is, or isn't
by_char : (P : ℕ → List ℕ → Type 0) (c n : ℕ) (yes_ no_ : List ℕ) → P n yes_ → ((c ≡ n → ⊥) → P c no_) → P c (if c == n then yes_ else no_)
by_char P c n yes_ no_ here other = elim (cases_eq c n) [
  | inl e ↦ subst (P c) (sym (cond-true (c == n) yes_ no_ (eq-eqb c n e))) (subst (λ (k : ℕ). P k yes_) (sym e) here)
  | inr apart ↦ subst (P c) (sym (cond-false (c == n) yes_ no_ (ne_eqb c n apart))) (other apart)
]

char_reads : (c : ℕ) → Reads c (char_text c)
char_reads c =
    by_char Reads c 92 _ _ (λ text. escape_reads 92 92 text (omega arith) refl refl)
    (λ slash. by_char Reads c 34 _ _ (λ text. escape_reads 34 34 text (omega arith) refl refl)
    (λ quote. by_char Reads c 10 _ _ (λ text. escape_reads 10 110 text (omega arith) refl refl)
    (λ feed. by_char Reads c 13 _ _ (λ text. escape_reads 13 114 text (omega arith) refl refl)
    (λ return. by_char Reads c 9 _ _ (λ text. escape_reads 9 116 text (omega arith) refl refl)
    (λ tab. by_char Reads c 0 _ _ (λ text. escape_reads 0 48 text (omega arith) refl refl)
    (λ nul. other_reads c slash quote))))))

escaped_reads : (cs rest : List ℕ) → quoted 34 0 (escaped cs ++ 34 ∷ rest) ≡ Some (encode_utf8_all cs, length (escaped cs) + 1)
escaped_reads [] rest = refl
escaped_reads (c ∷ cs) rest =
    ap (quoted 34 0) (append_assoc (char_text c) (escaped cs) (34 ∷ rest)) ∙ char_reads c (escaped cs ++ 34 ∷ rest)
    ∙ ap (taken (encode_utf8 c) (length (char_text c))) (escaped_reads cs rest) ∙ ap (λ (n : ℕ). Some (encode_utf8 c ++ encode_utf8_all cs, n)) long
  where
    long : length (char_text c) + (length (escaped cs) + 1) ≡ length (char_text c ++ escaped cs) + 1
    long = omega (arith, length-append (char_text c) (escaped cs))

-- a text in double quotes reads back, up to its closing quote
pub quoted_back : (s rest : List ℕ) → IsUtf8 s → quoted_text 34 (escaped (chars s) ++ 34 ∷ rest) ≡ Some (s, length (escaped (chars s)) + 1)
quoted_back s rest u =
    ap (option_and_then (λ p. option_map (λ t. (t, p.1)) (text_in p.0))) (escaped_reads (chars s) rest ∙ ap (λ (t : List ℕ). Some (t, length (escaped (chars s)) + 1)) (encodes-chars s u))
    ∙ ap (option_map (λ t. (t, length (escaped (chars s)) + 1))) (text_in_is s u)

-- ---- no byte of it ends a line

inline_is : (b : ℕ) → (b ≡ 10 → ⊥) → (b ≡ 13 → ⊥) → is_inline b ≡ true
inline_is b feed return = cond-false (b == 10 || b == 13) false true (or_from _ _ (ne_eqb b 10 feed) (ne_eqb b 13 return))

high_inline : (bs : List ℕ) → list_all is_high bs ≡ true → list_all is_inline bs ≡ true
high_inline [] all = refl
high_inline (b ∷ bs) all = let p = and_parts _ _ all in let big = leb-true 128 b p.0 in and_from _ _ (inline_is b (λ e. omega arith) (λ e. omega arith)) (high_inline bs p.1)

-- the text of a character ends no line
abbrev Inline : ℕ → List ℕ → Type 0
Inline c t = list_all is_inline t ≡ true

digit_inline : (d : ℕ) → d < 16 → is_inline (digit_char d) ≡ true
digit_inline d low = elim (cases_lt d 10) [
  | inl small ↦ let is : digit_char d ≡ 48 + d = cond-true (nat_lt d 10) _ _ (lt-ltb d 10 small) in inline_is (digit_char d) (λ e. omega arith) (λ e. omega arith)
  | inr big ↦ let is : digit_char d ≡ 87 + d = cond-false (nat_lt d 10) _ _ (le-ltb d 10 big) in inline_is (digit_char d) (λ e. omega arith) (λ e. omega arith)
]

hex_inline : (c : ℕ) → list_all is_inline (hex_text c) ≡ true
hex_inline c = elim (cases_lt c 16) [
  | inl one ↦ subst (Inline c) (sym (ap (λ t. 92 ∷ 117 ∷ 48 ∷ 48 ∷ t) (cond-true (nat_lt c 16) _ _ (lt-ltb c 16 one)))) (and_from _ _ (digit_inline c one) refl)
  | inr two ↦ elim (cases_lt c 32) [
    | inl low ↦ subst (Inline c) (sym (ap (λ t. 92 ∷ 117 ∷ 48 ∷ 48 ∷ t) (cond-false (nat_lt c 16) _ _ (le-ltb c 16 two) ∙ cond-true (nat_lt c 32) _ _ (lt-ltb c 32 low)))) (and_from _ _ (digit_inline (c - 16) (omega arith)) refl)
    | inr high ↦ subst (Inline c) (sym (ap (λ t. 92 ∷ 117 ∷ 48 ∷ 48 ∷ t) (cond-false (nat_lt c 16) _ _ (le-ltb c 16 two) ∙ cond-false (nat_lt c 32) _ _ (le-ltb c 32 high)))) refl
  ]
]

other_inline : (c : ℕ) → (c ≡ 10 → ⊥) → (c ≡ 13 → ⊥) → list_all is_inline (if nat_lt c 32 || c == 127 then hex_text c else encode_utf8 c) ≡ true
other_inline c feed return = choice (nat_lt c 32 || c == 127)
  where
    bytes : list_all is_inline (encode_utf8 c) ≡ true
    bytes = elim (cases_lt c 128) [
      | inl low ↦ subst (Inline c) (sym (encode_ascii c low)) (and_from _ _ (inline_is c feed return) refl)
      | inr high ↦ high_inline (encode_utf8 c) (encoded_high c high)
    ]

    choice : (t : Bool) → list_all is_inline (if t then hex_text c else encode_utf8 c) ≡ true
    choice true = hex_inline c
    choice false = bytes

char_inline : (c : ℕ) → list_all is_inline (char_text c) ≡ true
char_inline c =
    by_char Inline c 92 _ _ refl (λ slash. by_char Inline c 34 _ _ refl
    (λ quote. by_char Inline c 10 _ _ refl (λ feed. by_char Inline c 13 _ _ refl
    (λ return. by_char Inline c 9 _ _ refl (λ tab. by_char Inline c 0 _ _ refl (λ nul. other_inline c feed return))))))

pub escaped_inline : (cs : List ℕ) → list_all is_inline (escaped cs) ≡ true
escaped_inline [] = refl
escaped_inline (c ∷ cs) = all_append is_inline (char_text c) (escaped cs) (char_inline c) (escaped_inline cs)
