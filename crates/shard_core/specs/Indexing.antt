-- The index of a shard: whose pairs it holds.
use Rattle.std.specs.Prelude.{ℕ, List}
use Rattle.object_store.specs.Objects.{Objects}
use Rattle.object_finder.specs.Held.{Held}
use Rattle.object_finder.specs.Exact.{HoldsExactly}
use Rattle.org_core.specs.States.{objects_of}
use Rattle.shard_core.specs.Organisations.{KeptOrganisations, kept_at, state_at}

-- the objects that are kept under a name: none where nothing is
abbrev pub objects_at : KeptOrganisations → List ℕ → Objects
objects_at organisations name = objects_of (state_at (kept_at organisations name))

-- under each name the index holds, of each index and object of that organisation, the object's pairs and no others, and
-- nothing under any other word
abbrev pub IsIndexed : KeptOrganisations → Held → Type 0
IsIndexed organisations held = (name : List ℕ) → HoldsExactly held name (objects_at organisations name)

-- to find objects, the index looks at none of them, whatever their number
abbrev pub no_looks : ℕ → ℕ
no_looks count = 0
