-- The header fields of a message that say how long its body is (RFC 9112, section 6; RFC 9110, sections 5.1 and 8.6).
use Rattle.std.specs.Prelude.{ℕ, Bool, ◌&&◌, List, [], ◌∷◌, length, if◌then◌else◌, nat_lt, nat_le, Option, Some, None, codes}
use Rattle.std.specs.List.{list_all}
use Rattle.std.specs.Char.{is_ascii_digit}
use Rattle.std.specs.Str.{str_eq_ignore_ascii_case}
use Rattle.std.specs.Str.Parse.{digits_value}

-- the header has this name, in whatever case of its letters
abbrev pub is_named : List ℕ → List ℕ × List ℕ → Bool
is_named name header = str_eq_ignore_ascii_case header.0 name

-- the values that the headers give under this name, in their order
abbrev pub values_named : List ℕ → List (List ℕ × List ℕ) → List (List ℕ)
values_named name [] = []
values_named name (header ∷ headers) =
    if is_named name header then header.1 ∷ values_named name headers else values_named name headers

-- the value is a body's length: 1 to 20 decimal digits of a number up to 67,108,864
abbrev pub is_length : List ℕ → Bool
is_length value =
    nat_lt 0 (length value)
    && (nat_le (length value) 20 && (list_all is_ascii_digit value && nat_le (digits_value 10 value) 67108864))

-- the length that the value says
abbrev pub read_length : List ℕ → Option ℕ
read_length value = if is_length value then Some (digits_value 10 value) else None

-- the length that these values say: without one there is no body, and two are refused
abbrev pub one_length : List (List ℕ) → Option ℕ
one_length [] = Some 0
one_length (value ∷ []) = read_length value
one_length (value ∷ other ∷ values) = None

-- that length, where the message isn't sent by another rule
abbrev pub length_unless : List (List ℕ) → List (List ℕ) → Option ℕ
length_unless [] lengths = one_length lengths
length_unless (coding ∷ codings) lengths = None

-- how many bytes the body has, where the message is framed by its length alone
abbrev pub body_length : List (List ℕ × List ℕ) → Option ℕ
body_length headers =
    length_unless (values_named (codes "transfer-encoding") headers) (values_named (codes "content-length") headers)
