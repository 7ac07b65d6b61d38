-- Quoted scalars (YAML 1.2.2, section 7.3): the text that stands between the quotes, and how many bytes it takes with the closing one.
use Rattle.std.specs.Prelude.{ℕ, zero, suc, ◌+◌, ◌*◌, Bool, false, ◌&&◌, ◌||◌, ◌==◌, nat_lt, nat_le, if◌then◌else◌, List, [], ◌∷◌, ◌++◌, Option, Some, None, option_map, option_and_then}
use Rattle.std.specs.Char.{digit_value, encode_utf8}
use Rattle.std.specs.Str.{is_utf8}
use Rattle.yaml_subset.specs.declared.quoted.Stands.{Stands}
use Rattle.yaml_subset.specs.declared.quoted.Stands.TheVariants.{Closing, Plain, Escaped, Unicode, Wrong}

abbrev pub is_hex : ℕ → Bool
is_hex b = nat_lt (digit_value b) 16

-- the number of four hexadecimal digits
abbrev pub hex_value : ℕ → ℕ → ℕ → ℕ → ℕ
hex_value a b c d = ((digit_value a * 16 + digit_value b) * 16 + digit_value c) * 16 + digit_value d

abbrev pub is_surrogate : ℕ → Bool
is_surrogate code = nat_le 0xD800 code && nat_lt code 0xE000

-- what four hexadecimal digits behind `\u` stand for
abbrev pub unicode : List ℕ → Stands
unicode [] = Wrong
unicode (a ∷ []) = Wrong
unicode (a ∷ b ∷ []) = Wrong
unicode (a ∷ b ∷ c ∷ []) = Wrong
unicode (a ∷ b ∷ c ∷ d ∷ text) =
    if is_hex a && (is_hex b && (is_hex c && is_hex d)) then (if is_surrogate (hex_value a b c d) then Wrong else Unicode (hex_value a b c d)) else Wrong

-- what one byte behind a backslash stands for
abbrev pub simple : ℕ → Stands
simple b =
    if b == 92 || (b == 34 || b == 47) then Escaped b
    else (if b == 110 then Escaped 10 else (if b == 114 then Escaped 13 else (if b == 116 then Escaped 9 else (if b == 48 then Escaped 0 else Wrong))))

-- what stands behind a backslash
abbrev pub escape : List ℕ → Stands
escape [] = Wrong
escape (b ∷ text) = if b == 117 then unicode text else simple b

-- whether a text begins with this byte
abbrev pub begins : ℕ → List ℕ → Bool
begins b [] = false
begins b (c ∷ text) = c == b

-- what a byte between quotes of this mark stands for, by what follows it
abbrev pub standing : ℕ → ℕ → List ℕ → Stands
standing mark b text =
    if mark == 34 then (if b == 34 then Closing else (if b == 92 then escape text else Plain b))
    else (if b == 39 then (if begins 39 text then Escaped 39 else Closing) else Plain b)

-- the same, behind these bytes, which took so many
abbrev pub taken : List ℕ → ℕ → Option (List ℕ × ℕ) → Option (List ℕ × ℕ)
taken bytes n found = option_map (λ p. (bytes ++ p.0, n + p.1)) found

-- a byte, and then what is found so many bytes further on
abbrev pub goes_on : Stands → (ℕ → Option (List ℕ × ℕ)) → Option (List ℕ × ℕ)
goes_on Closing rest = Some ([], 1)
goes_on (Plain b) rest = taken (b ∷ []) 1 (rest 0)
goes_on (Escaped b) rest = taken (b ∷ []) 1 (rest 1)
goes_on (Unicode c) rest = taken (encode_utf8 c) 1 (rest 5)
goes_on Wrong rest = None

-- the text up to the closing quote, and how many bytes it takes with that, where so many are passed over first
abbrev pub quoted : ℕ → ℕ → List ℕ → Option (List ℕ × ℕ)
quoted mark n [] = None
quoted mark zero (b ∷ text) = goes_on (standing mark b text) (λ n. quoted mark n text)
quoted mark (suc n) (b ∷ text) = taken [] 1 (quoted mark n text)

-- the bytes, where they are a text: cut out of a text at its signs, they always are
abbrev pub text_in : List ℕ → Option (List ℕ)
text_in bytes = if is_utf8 bytes then Some bytes else None

-- the text between quotes of this mark, and how many bytes it takes with the closing one
abbrev pub quoted_text : ℕ → List ℕ → Option (List ℕ × ℕ)
quoted_text mark inner = option_and_then (λ p. option_map (λ t. (t, p.1)) (text_in p.0)) (quoted mark 0 inner)
