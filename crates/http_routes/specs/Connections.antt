-- What the `Connection` headers of a message say (RFC 9110, section 7.6.1; RFC 9112, section 9.6).
use Rattle.std.specs.Prelude.{Bool, ◌==◌, ◌-◌, ℕ, List, length, take, drop, map, codes}
use Rattle.std.specs.List.{flat_map, list_any, prefix_len, slice_split, suffix_len}
use Rattle.std.specs.Char.{is_ascii_whitespace}
use Rattle.std.specs.Str.{str_eq_ignore_ascii_case}

-- the text without the white space at its end, and at both its ends: a header has no other than spaces and tabs
abbrev pub end_trimmed : List ℕ → List ℕ
end_trimmed text = take (length text - suffix_len is_ascii_whitespace text) text

abbrev pub trimmed : List ℕ → List ℕ
trimmed text = end_trimmed (drop (prefix_len is_ascii_whitespace text) text)

-- the options that a value lists: what stands between its commas, without the white space round it
abbrev pub options_in : List ℕ → List (List ℕ)
options_in value = map trimmed (slice_split (λ b. b == 44) value)

-- the option is `close`, in whatever case of its letters
abbrev pub is_close : List ℕ → Bool
is_close option = str_eq_ignore_ascii_case option (codes "close")

-- the connection is to be closed: `close` is among the options of all values
unfoldable pub closes : List (List ℕ) → Bool
closes values = list_any is_close (flat_map options_in values)
