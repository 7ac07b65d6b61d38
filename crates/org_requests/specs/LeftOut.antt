-- The paths that are left out, which no request builds.
use Rattle.std.specs.Prelude.{Bool, true, false, ◌&&◌, ℕ, List, [], ◌∷◌, codes, bytes_eq}
use Rattle.std.specs.List.{list_any}
use Rattle.org_requests.specs.Patterns.{Part, fixed, any}
use Rattle.org_requests.specs.Table.{within}

-- how the paths that are left out begin
abbrev pub left_out : List (List Part)
left_out =
    (fixed (codes "users") ∷ [])
    ∷ (fixed (codes "authenticate_user") ∷ [])
    ∷ within (fixed (codes "association_requests") ∷ [])
    ∷ within (fixed (codes "principals") ∷ [])
    ∷ within (fixed (codes "required_recipe") ∷ [])
    ∷ []

-- the segments begin with this pattern
abbrev pub begins_with : List Part → List (List ℕ) → Bool
begins_with [] segments = true
begins_with (part ∷ parts) [] = false
begins_with (fixed text ∷ parts) (segment ∷ rest) = bytes_eq text segment && begins_with parts rest
begins_with (any ∷ parts) (segment ∷ rest) = begins_with parts rest

-- a path is left out, with or without further segments
unfoldable pub is_left_out : List (List ℕ) → Bool
is_left_out segments = list_any (λ pattern. begins_with pattern segments) left_out
