-- What names a file: the text of its MD5.
use Rattle.std.specs.Prelude.{ℕ, Bool, ◌&&◌, ◌||◌, ◌==◌, nat_le, List, length, Option, Some, None, if◌then◌else◌}
use Rattle.std.specs.List.{list_all}
use Rattle.std.specs.Ordering.{nat_cmp}
use Rattle.std.specs.declared.cmp.Ordering.{Ordering}
use Rattle.std.specs.Cmp.Lexicographic.{slice_cmp}
use Rattle.hex.specs.Hex.{encode_lower}
use Rattle.md5.specs.Md5.{md5}

-- a lower-case hexadecimal digit: `0` to `9`, or `a` to `f`
abbrev pub is_digit : ℕ → Bool
is_digit c = (nat_le 48 c && nat_le c 57) || (nat_le 97 c && nat_le c 102)

-- a checksum is 32 lower-case hexadecimal digits
abbrev pub is_checksum : List ℕ → Bool
is_checksum text = length text == 32 && list_all is_digit text

-- the checksum that a text is
abbrev pub checksum_in : List ℕ → Option (List ℕ)
checksum_in text = if is_checksum text then Some text else None

-- the checksum of a file: the text of its MD5
unfoldable pub checksum_of : List ℕ → List ℕ
checksum_of bytes = encode_lower (md5 bytes)
