-- What the headers of a request say: the caller's name, and the version of the API. Both are given
-- as the values that the header has in the message, in order.
use Rattle.std.specs.Prelude.{◌≡◌, ◌<◌, Bool, ◌&&◌, ℕ, List, [], ◌∷◌, Option, Some, None, length, nat_lt, codes, bytes_eq, cond, if◌then◌else◌}
use Rattle.std.specs.Str.{is_utf8}
use Rattle.http_routes.specs.declared.headers.HeaderValue.{HeaderValue}
use Rattle.http_routes.specs.declared.headers.HeaderValue.TheVariants.{Missing, One, Several}

-- these are the values of a header of which the message has this
abbrev pub Stands : HeaderValue → List (List ℕ) → Type 0
Stands Missing values = values ≡ []
Stands (One value) values = values ≡ value.now ∷ []
Stands Several values = 1 < length values

-- a name that a caller can have: text, and not empty
abbrev pub is_caller : List ℕ → Bool
is_caller value = nat_lt 0 (length value) && is_utf8 value

-- the caller that a value names
abbrev pub caller_named : List ℕ → Option (List ℕ)
caller_named value = cond (is_caller value) (Some value) None

-- the caller, known only where the header stands once and has such a value
abbrev pub caller_in : List (List ℕ) → Option (List ℕ)
caller_in [] = None
caller_in (value ∷ []) = caller_named value
caller_in (value ∷ other ∷ rest) = None

-- the version that a value stands for
abbrev pub version_named : List ℕ → Option ℕ
version_named value =
    if bytes_eq value (codes "0") then Some 0 else
    (if bytes_eq value (codes "1") then Some 1 else
    (if bytes_eq value (codes "2") then Some 2 else None))

-- the version of the API: 0 without the header, and none where it stands twice
abbrev pub api_in : List (List ℕ) → Option ℕ
api_in [] = Some 0
api_in (value ∷ []) = version_named value
api_in (value ∷ other ∷ rest) = None
