-- Sets of objects, for the private clauses.
use Rattle.std.specs.Prelude.{ℕ, Bool, true, false, not, List, eqb, if◌then◌else◌}
use Rattle.std.specs.List.{list_any}
use Rattle.search_index.specs.declared.found.Found.{Found}

-- the number is one of these
abbrev pub is_in : List ℕ → ℕ → Bool
is_in numbers x = list_any (eqb x) numbers

-- two truth values are the same
abbrev pub both_are : Bool → Bool → Bool
both_are true b = b
both_are false b = not b

-- the object is one of these
abbrev pub has : Found → ℕ → Bool
has found x = if found.others then not (is_in found.numbers x) else is_in found.numbers x
