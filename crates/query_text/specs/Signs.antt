-- Which bytes stand for themselves in a query. Those above 127 are parts of characters, and stand for themselves everywhere.
use Rattle.std.specs.Prelude.{ℕ, Bool, not, ◌&&◌, ◌||◌, ◌==◌, nat_le}
use Rattle.std.specs.Char.{is_ascii_alphanumeric}

-- one of the six characters of white space in ASCII
abbrev pub is_space : ℕ → Bool
is_space b = b == 32 || (b == 9 || (b == 10 || (b == 11 || (b == 12 || b == 13))))

-- a letter, a digit, one of `_`, `-`, `.`, `@` and `/`, or above 127
abbrev pub is_field_byte : ℕ → Bool
is_field_byte b = is_ascii_alphanumeric b || (b == 95 || (b == 45 || (b == 46 || (b == 64 || (b == 47 || nat_le 128 b)))))

-- such a byte that a field may begin with: any but `-`
abbrev pub is_field_start : ℕ → Bool
is_field_start b = not (b == 45) && is_field_byte b

-- any byte but `"` and `\`
abbrev pub is_quoted_byte : ℕ → Bool
is_quoted_byte b = not (b == 34) && not (b == 92)

-- a bracket of any kind
abbrev pub is_bracket : ℕ → Bool
is_bracket b = b == 40 || (b == 41 || (b == 91 || (b == 93 || (b == 123 || b == 125))))

-- one of `"`, `\`, `~`, `^`, `*` and `?`
abbrev pub is_mark : ℕ → Bool
is_mark b = b == 34 || (b == 92 || (b == 126 || (b == 94 || (b == 42 || b == 63))))

-- any byte but white space, brackets and those marks
abbrev pub is_word_byte : ℕ → Bool
is_word_byte b = not (is_space b) && (not (is_bracket b) && not (is_mark b))
