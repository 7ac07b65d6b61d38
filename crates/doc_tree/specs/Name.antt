-- The forms of names.
use Rattle.std.specs.Prelude.{ℕ, Bool, false, ◌&&◌, ◌||◌, ◌==◌, nat_lt, nat_le, List, [], ◌∷◌, length}
use Rattle.std.specs.Char.{is_ascii_alphanumeric, is_ascii_lowercase, is_ascii_digit}
use Rattle.std.specs.List.{list_all}

-- an ASCII letter, a digit, or one of `_`, `-`, `.` and `:`
abbrev pub is_name_byte : ℕ → Bool
is_name_byte b = is_ascii_alphanumeric b || (b == 95 || b == 45 || b == 46 || b == 58)

-- 1 to 255 bytes of a name
abbrev pub is_name : List ℕ → Bool
is_name bs = nat_lt 0 (length bs) && nat_le (length bs) 255 && list_all is_name_byte bs

-- a lower-case ASCII letter or a digit
abbrev pub is_lowercase_or_digit : ℕ → Bool
is_lowercase_or_digit b = is_ascii_lowercase b || is_ascii_digit b

-- a lower-case ASCII letter, a digit, `-` or `_`
abbrev pub is_organisation_byte : ℕ → Bool
is_organisation_byte b = is_lowercase_or_digit b || (b == 45 || b == 95)

-- a lower-case letter or a digit, and then at most 254 bytes of an organisation's name
abbrev pub is_organisation_name : List ℕ → Bool
is_organisation_name [] = false
is_organisation_name (first ∷ rest) = is_lowercase_or_digit first && nat_le (length rest) 254 && list_all is_organisation_byte rest
