-- The header fields of a reply that are looked at (RFC 9112, section 6; RFC 9110, sections 8.3 and 8.6).
use Rattle.std.specs.Prelude.{ℕ, Bool, List, [], ◌∷◌, Option, None, codes, bytes_eq}
use Rattle.std.specs.List.{list_any}
use Rattle.http_wire.specs.Fields.{read_length, values_named}

-- the length that these values say: there has to be one, and two are refused
abbrev pub stated_length : List (List ℕ) → Option ℕ
stated_length [] = None
stated_length (value ∷ []) = read_length value
stated_length (value ∷ other ∷ values) = None

-- that length, where the reply isn't sent by another rule
abbrev pub length_unless : List (List ℕ) → List (List ℕ) → Option ℕ
length_unless [] lengths = stated_length lengths
length_unless (coding ∷ codings) lengths = None

-- how many bytes the body of a reply has, where it is framed by its length alone
abbrev pub body_length : List (List ℕ × List ℕ) → Option ℕ
body_length headers =
    length_unless (values_named (codes "transfer-encoding") headers) (values_named (codes "content-length") headers)

-- the value says that the body is raw bytes
unfoldable pub is_octet_stream : List ℕ → Bool
is_octet_stream value = bytes_eq value (codes "application/octet-stream")

-- one of the values says so
abbrev pub lists_octets : List (List ℕ) → Bool
lists_octets values = list_any is_octet_stream values

-- a `Content-Type` says so
abbrev pub is_octets : List (List ℕ × List ℕ) → Bool
is_octets headers = lists_octets (values_named (codes "content-type") headers)
