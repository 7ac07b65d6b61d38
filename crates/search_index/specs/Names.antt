-- Lists of names.
use Rattle.std.specs.Prelude.{ℕ, Bool, List}
use Rattle.std.specs.List.{list_any}
use Rattle.std.specs.Ordering.{nat_cmp, eq_by_cmp}
use Rattle.std.specs.Cmp.Lexicographic.{slice_cmp}

-- the name is one of these
abbrev pub lists_name : List (List ℕ) → List ℕ → Bool
lists_name names name = list_any (eq_by_cmp (slice_cmp nat_cmp) name) names
