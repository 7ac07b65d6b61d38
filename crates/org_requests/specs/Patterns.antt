-- Patterns of paths, and what a path stands for in a table of patterns. A path is given by its
-- segments (RFC 3986, section 3.3), decoded.
use Rattle.std.specs.Prelude.{Bool, ◌&&◌, not, ◌==◌, ℕ, List, [], ◌∷◌, ◌++◌, Option, Some, None, length, nat_lt, bytes_eq, map, drop, if◌then◌else◌}
use Rattle.std.specs.Option.{option_or}
use Rattle.std.specs.List.{list_any, slice_split}

-- a part of a pattern: a segment of this very text, or a segment of any text
pub data Part : Type 0 where
  fixed : List ℕ → Part
  any : Part

-- the part that a piece of a pattern's text writes: `{name}` is a segment of any text
abbrev pub part_in : List ℕ → Part
part_in [] = fixed []
part_in (byte ∷ rest) = if byte == 123 then any else fixed (byte ∷ rest)

-- the pattern that a text writes: the pieces behind its slashes
abbrev pub parts_in : List ℕ → List Part
parts_in text = map part_in (drop 1 (slice_split (λ b. b == 47) text))

-- patterns, each with what it stands for
abbrev pub Table : Type 0 → Type 0
Table K = List (List Part × K)

-- a segment: it is not empty and holds no slash
abbrev pub is_segment : List ℕ → Bool
is_segment text = nat_lt 0 (length text) && not (list_any (λ b. b == 47) text)

-- the path of these segments: a slash before each
abbrev pub joined : List (List ℕ) → List ℕ
joined [] = []
joined (segment ∷ rest) = 47 ∷ (segment ++ joined rest)

module _ {K : Type 0} where
  -- what a pattern without parts stands for
  abbrev pub ends_here : Table K → Option K
  ends_here [] = None
  ends_here (([], key) ∷ rest) = Some key
  ends_here ((part ∷ parts, key) ∷ rest) = ends_here rest

  -- the patterns that begin with this text, behind it
  abbrev pub behind_fixed : List ℕ → Table K → Table K
  behind_fixed segment [] = []
  behind_fixed segment (([], key) ∷ rest) = behind_fixed segment rest
  behind_fixed segment ((fixed text ∷ parts, key) ∷ rest) =
      if bytes_eq text segment then (parts, key) ∷ behind_fixed segment rest else behind_fixed segment rest
  behind_fixed segment ((any ∷ parts, key) ∷ rest) = behind_fixed segment rest

  -- the patterns that begin with any text, behind it
  abbrev pub behind_any : Table K → Table K
  behind_any [] = []
  behind_any (([], key) ∷ rest) = behind_any rest
  behind_any ((fixed text ∷ parts, key) ∷ rest) = behind_any rest
  behind_any ((any ∷ parts, key) ∷ rest) = (parts, key) ∷ behind_any rest

  -- what a path stands for: where two patterns fit it, that counts which has the fixed segment
  unfoldable pub route_of : Table K → List (List ℕ) → Option K
  route_of table [] = ends_here table
  route_of table (segment ∷ rest) =
      option_or (route_of (behind_fixed segment table) rest) (route_of (behind_any table) rest)
