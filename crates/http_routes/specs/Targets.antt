-- The path of a request target (RFC 9112, section 3.2.1), as decoded segments (RFC 3986, sections
-- 2.1 and 3.3).
use Rattle.std.specs.Prelude.{Bool, ◌&&◌, not, ◌==◌, ℕ, List, [], ◌∷◌, Option, Some, None, length, take, nat_lt, cond, if◌then◌else◌}
use Rattle.std.specs.Option.{option_and_then, option_map}
use Rattle.std.specs.List.{list_any, position_or_len, slice_split}
use Rattle.std.specs.Str.{is_utf8}
use Rattle.percent_encoding.specs.Percent.{percent_decode}

-- the path: the target up to the question mark
abbrev pub path_in : List ℕ → List ℕ
path_in target = take (position_or_len (λ b. b == 63) target) target

-- a decoded segment: not empty, text, and without a slash
abbrev pub is_segment : List ℕ → Bool
is_segment s = nat_lt 0 (length s) && (not (list_any (λ b. b == 47) s) && is_utf8 s)

-- the segment that decoded bytes are
abbrev pub segment_from : List ℕ → Option (List ℕ)
segment_from decoded = cond (is_segment decoded) (Some decoded) None

-- the segment that a piece between slashes spells
abbrev pub segment_in : List ℕ → Option (List ℕ)
segment_in piece = segment_from (percent_decode piece)

-- the segments that the pieces spell, where each of them spells one
abbrev pub segments_in : List (List ℕ) → Option (List (List ℕ))
segments_in [] = Some []
segments_in (piece ∷ rest) = option_and_then (λ s. option_map (λ ss. s ∷ ss) (segments_in rest)) (segment_in piece)

-- the segments of a path, which begins with a slash
abbrev pub path_segments : List ℕ → Option (List (List ℕ))
path_segments [] = None
path_segments (b ∷ rest) = if b == 47 then segments_in (slice_split (λ c. c == 47) rest) else None

-- the segments of a target's path
abbrev pub target_segments : List ℕ → Option (List (List ℕ))
target_segments target = path_segments (path_in target)
