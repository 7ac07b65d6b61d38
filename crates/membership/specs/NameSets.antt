-- Sets of names as they are kept.
use Rattle.std.specs.Prelude.{ℕ, List}
use Rattle.std.specs.FinSet as set
use Rattle.membership.specs.TextSets.{Names}

-- the set of the names that are kept
abbrev pub seen : List (List ℕ) → Names
seen keys = set.from_list keys
