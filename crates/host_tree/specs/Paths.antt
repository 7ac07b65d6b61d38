-- Paths in their normal form, and which stands above which.
use Rattle.std.specs.Prelude.{◌≡◌, ℕ, ◌<◌, Bool, true, false, not, ◌&&◌, ◌==◌, nat_le, List, [], ◌∷◌, length, Some, slice_get}
use Rattle.std.specs.List.{list_all, slice_split}

-- a segment of a path that isn't empty, `.` or `..`
abbrev pub is_segment : List ℕ → Bool
is_segment [] = false
is_segment (b ∷ []) = not (b == 46)
is_segment (b ∷ c ∷ []) = not (b == 46 && c == 46)
is_segment (b ∷ c ∷ d ∷ more) = true

-- it begins with `/`, and what stands between its slashes are segments
abbrev pub is_rooted : List ℕ → Bool
is_rooted [] = false
is_rooted (b ∷ behind) = b == 47 && list_all is_segment (slice_split (λ c. c == 47) behind)

-- a normal path: at most 4,096 bytes, and rooted. The root `/` itself is none
abbrev pub is_normal : List ℕ → Bool
is_normal path = nat_le (length path) 4096 && is_rooted path

-- a path goes on from another: it is that one, then a slash, and then anything
abbrev pub goes_on : List ℕ → List ℕ → Bool
goes_on [] [] = false
goes_on [] (c ∷ behind) = c == 47
goes_on (b ∷ bs) [] = false
goes_on (b ∷ bs) (c ∷ cs) = b == c && goes_on bs cs

-- a path is a proper prefix of another, segment by segment. The root is above nothing, since it is always there
abbrev pub is_above : List ℕ → List ℕ → Bool
is_above [] path = false
is_above (b ∷ bs) path = goes_on (b ∷ bs) path

-- a proper prefix of this path ends here: a slash that isn't its first byte
abbrev pub EndsPrefix : List ℕ → ℕ → Type 0
EndsPrefix path end = (0 < end) × (slice_get path end ≡ Some 47)
