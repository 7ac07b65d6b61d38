-- Versions of cookbooks: two or three numbers with dots between them.
use Rattle.std.specs.Prelude.{ℕ, ◌^◌, Bool, not, ◌&&◌, ◌||◌, ◌==◌, nat_lt, nat_le, if◌then◌else◌, List, [], ◌∷◌, ◌++◌, length, slice_index_or, Option, Some, None, Result, Ok, Err, decimal}
use Rattle.std.specs.Borrow.{Bor}
use Rattle.std.specs.Char.{is_ascii_digit}
use Rattle.std.specs.List.{list_all, list_any, slice_split}
use Rattle.std.specs.Str.Parse.{digits_value}
use Rattle.version_rules.specs.declared.fault.VersionFault.{VersionFault}
use Rattle.version_rules.specs.declared.fault.VersionFault.TheVariants.{NotAVersion, PartTooLarge}
use Rattle.version_rules.specs.declared.versions.Version.{Version}

-- the parts of a text: its pieces between dots
abbrev pub parts_of : List ℕ → List (List ℕ)
parts_of text = slice_split (λ b. b == 46) text

-- the parts of what follows a dot, if there is one
abbrev pub parts_behind : Option (Bor (List ℕ)) → List (List ℕ)
parts_behind None = []
parts_behind (Some rest) = parts_of rest.now

-- one or more decimal digits
abbrev pub is_number : List ℕ → Bool
is_number part = nat_lt 0 (length part) && list_all is_ascii_digit part

-- the number that the digits write does not fit 64 bits
abbrev pub is_too_large : List ℕ → Bool
is_too_large part = nat_le (2 ^ 64) (digits_value 10 part)

-- the number that the digits write
abbrev pub reads_number : List ℕ → Result ℕ VersionFault
reads_number part = if is_too_large part then Err PartTooLarge else Ok (digits_value 10 part)

-- two or three parts, each a number
abbrev pub is_version : List (List ℕ) → Bool
is_version parts = (length parts == 2 || length parts == 3) && list_all is_number parts

-- the number of the part at a position, or 0 where no part stands there
abbrev pub number_at : List (List ℕ) → ℕ → ℕ
number_at parts position = digits_value 10 (slice_index_or parts position [])

-- the version of these parts, or why they are none
abbrev pub version_of : List (List ℕ) → Result Version VersionFault
version_of parts =
    if not (is_version parts) then Err NotAVersion
    else if list_any is_too_large parts then Err PartTooLarge
    else Ok (record { major = number_at parts 0; minor = number_at parts 1; patch = number_at parts 2 })

-- the version that a text spells, or why it spells none
abbrev pub reads_version : List ℕ → Result Version VersionFault
reads_version text = version_of (parts_of text)

-- the text of a version: its three numbers with dots between them
abbrev pub version_text : Version → List ℕ
version_text v = decimal v.major ++ 46 ∷ decimal v.minor ++ 46 ∷ decimal v.patch
