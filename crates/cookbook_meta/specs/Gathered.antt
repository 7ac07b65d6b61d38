-- The set of the paths of entries.
use Rattle.std.specs.Prelude.{◌≡◌, ℕ, Bool, false, List, Result, Ok, Err}
use Rattle.std.specs.BTreeSet.{BTreeSet, contains}
use Rattle.std.specs.Cmp.Lexicographic.{slice_cmp}
use Rattle.std.specs.Ordering.{nat_cmp}
use Rattle.cookbook_meta.specs.Entries.{has_path}
use Rattle.cookbook_meta.specs.declared.entries.Entry.{Entry}

-- the set has the paths of these entries and no others
abbrev pub HasPathsOf : List Entry → BTreeSet (List ℕ) → Type 0
HasPathsOf files paths = (path : List ℕ) → contains (slice_cmp nat_cmp) paths path ≡ has_path files path

-- an entry was put: its path was new, and there was memory
abbrev pub is_put : {F : Type 0} → Result Bool F → Bool
is_put (Ok is_new) = is_new
is_put (Err f) = false
