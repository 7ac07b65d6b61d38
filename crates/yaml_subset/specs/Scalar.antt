-- Plain scalars (YAML 1.2.2, sections 7.3.3 and 10.3): which texts are plain, and what they stand for in the core schema.
use Rattle.std.specs.Prelude.{ℕ, pos, neg_ℤ, ◌^◌, Bool, true, false, ◌&&◌, ◌||◌, ◌==◌, nat_lt, nat_le, is_some, if◌then◌else◌, bytes_eq, List, [], ◌∷◌, codes, Option, Some, None, option_map}
use Rattle.std.specs.Char.{digit_value}
use Rattle.std.specs.Str.Parse.{digits_value}
use Rattle.doc_tree.specs.Doc.{Doc, null, boolean, whole, words}
use Rattle.yaml_subset.specs.Quoted.{text_in}
use Rattle.yaml_subset.specs.Signs.{colon_at, is_apart, is_indicator}
use Rattle.yaml_subset.specs.declared.scalar.Means.{Means}
use Rattle.yaml_subset.specs.declared.scalar.Means.TheVariants.{Null, Truth, Whole, Refused, Words}

-- a plain scalar: how it may begin, and no colon before a space or at its end
abbrev pub is_plain : List ℕ → Bool
is_plain [] = false
is_plain (b ∷ text) =
    if is_indicator b then false else (if (b == 45 || (b == 63 || b == 58)) && is_apart text then false else (if is_some (colon_at (b ∷ text)) then false else true))

abbrev pub is_digit : ℕ → Bool
is_digit b = nat_le 48 b && nat_le b 57

-- digits in this radix, one or more
abbrev pub all_digits : ℕ → List ℕ → Bool
all_digits radix [] = true
all_digits radix (b ∷ text) = nat_lt (digit_value b) radix && all_digits radix text

abbrev pub are_digits : ℕ → List ℕ → Bool
are_digits radix [] = false
are_digits radix (b ∷ text) = all_digits radix (b ∷ text)

-- what follows the decimal digits that a text begins with
abbrev pub behind_digits : List ℕ → List ℕ
behind_digits [] = []
behind_digits (b ∷ text) = if is_digit b then behind_digits text else b ∷ text

abbrev pub begins_digit : List ℕ → Bool
begins_digit [] = false
begins_digit (b ∷ text) = is_digit b

-- without a sign that it begins with
abbrev pub unsigned : List ℕ → List ℕ
unsigned [] = []
unsigned (b ∷ text) = if b == 43 || b == 45 then text else b ∷ text

-- begins with a minus
abbrev pub is_minus : List ℕ → Bool
is_minus [] = false
is_minus (b ∷ text) = b == 45

-- an exponent: `e` or `E`, and a number
abbrev pub is_exponent : List ℕ → Bool
is_exponent [] = false
is_exponent (b ∷ text) = (b == 101 || b == 69) && are_digits 10 (unsigned text)

-- nothing, or an exponent
abbrev pub ends_number : List ℕ → Bool
ends_number [] = true
ends_number (b ∷ text) = is_exponent (b ∷ text)

-- what follows the digits of a number that isn't whole: a point, and maybe digits and an exponent, or an exponent
abbrev pub ends_fraction : List ℕ → Bool
ends_fraction [] = false
ends_fraction (b ∷ text) = if b == 46 then ends_number (behind_digits text) else is_exponent (b ∷ text)

-- a point and digits, and maybe an exponent
abbrev pub is_point_digits : List ℕ → Bool
is_point_digits [] = false
is_point_digits (b ∷ text) = if b == 46 then (if begins_digit text then ends_number (behind_digits text) else false) else false

abbrev pub is_infinity : List ℕ → Bool
is_infinity text = bytes_eq text (codes ".inf") || (bytes_eq text (codes ".Inf") || bytes_eq text (codes ".INF"))

abbrev pub is_not_a_number : List ℕ → Bool
is_not_a_number text = bytes_eq text (codes ".nan") || (bytes_eq text (codes ".NaN") || bytes_eq text (codes ".NAN"))

-- without its sign, a number with a point or an exponent, or the infinity
abbrev pub is_unsigned_float : List ℕ → Bool
is_unsigned_float text = if begins_digit text then ends_fraction (behind_digits text) else is_point_digits text || is_infinity text

-- a number of the core schema that isn't whole
abbrev pub is_float : List ℕ → Bool
is_float text = is_unsigned_float (unsigned text) || is_not_a_number text

abbrev pub is_null : List ℕ → Bool
is_null text = bytes_eq text (codes "null") || (bytes_eq text (codes "Null") || (bytes_eq text (codes "NULL") || bytes_eq text (codes "~")))

abbrev pub is_true : List ℕ → Bool
is_true text = bytes_eq text (codes "true") || (bytes_eq text (codes "True") || bytes_eq text (codes "TRUE"))

abbrev pub is_false : List ℕ → Bool
is_false text = bytes_eq text (codes "false") || (bytes_eq text (codes "False") || bytes_eq text (codes "FALSE"))

-- the whole number of this value, below 0 or not, where it is from -2^63 to 2^64 - 1
abbrev pub number_of : Bool → ℕ → Means
number_of minus n = if minus then (if nat_le n (2 ^ 63) then Whole (neg_ℤ (pos n)) else Refused) else (if nat_lt n (2 ^ 64) then Whole (pos n) else Refused)

-- decimal digits behind a sign or none: a 0 and more digits are a text
abbrev pub decimal_meaning : Bool → List ℕ → Means
decimal_meaning minus [] = Words
decimal_meaning minus (b ∷ []) = if is_digit b then number_of minus (digits_value 10 (b ∷ [])) else Words
decimal_meaning minus (b ∷ c ∷ text) = if b == 48 then Words else (if are_digits 10 (b ∷ c ∷ text) then number_of minus (digits_value 10 (b ∷ c ∷ text)) else Words)

-- `0o` with octal or `0x` with hexadecimal digits
abbrev pub based_meaning : ℕ → List ℕ → Means
based_meaning radix text = if are_digits radix text then number_of false (digits_value radix text) else Words

-- a text that is no number with a point or an exponent
abbrev pub whole_meaning : List ℕ → Means
whole_meaning [] = Words
whole_meaning (a ∷ []) = decimal_meaning (is_minus (a ∷ [])) (unsigned (a ∷ []))
whole_meaning (a ∷ b ∷ text) =
    if a == 48 then (if b == 111 then based_meaning 8 text else (if b == 120 then based_meaning 16 text else decimal_meaning (is_minus (a ∷ b ∷ text)) (unsigned (a ∷ b ∷ text))))
    else decimal_meaning (is_minus (a ∷ b ∷ text)) (unsigned (a ∷ b ∷ text))

-- what a plain scalar stands for
abbrev pub meaning : List ℕ → Means
meaning text =
    if is_null text then Null
    else (if is_true text then Truth true else (if is_false text then Truth false else (if is_float text then Refused else whole_meaning text)))

-- the document of a text that stands for this
abbrev pub doc_with : Means → List ℕ → Option Doc
doc_with Null text = Some null
doc_with (Truth b) text = Some (boolean b)
doc_with (Whole z) text = Some (whole z)
doc_with Refused text = None
doc_with Words text = option_map words (text_in text)

-- the document of a plain scalar, where it is one and no number is refused
abbrev pub plain_doc : List ℕ → Option Doc
plain_doc text = if is_plain text then doc_with (meaning text) text else None
