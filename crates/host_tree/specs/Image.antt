-- A host as it is kept in memory.
use Rattle.std.specs.Prelude.{◌≡◌, ℕ, true, false, List, Option, Some, None, IsSome}
use Rattle.std.specs.BTreeMap.{BTreeMap}
use Rattle.std.specs.FinMap as finite
use Rattle.host_tree.specs.Acts.{IsReached, StaysOrGoes}
use Rattle.host_tree.specs.Entries.{Entries, at, IsDirectory}
use Rattle.host_tree.specs.Paths.{is_above}
use Rattle.host_tree.specs.declared.entry.Entry.{Entry}

-- the host that these entries are
abbrev pub kept_in : BTreeMap (List ℕ) Entry → Entries
kept_in m = finite.from_entries m.entries

-- the path is reached, and where a directory stands there this entry is one
abbrev pub CanPut : Entries → List ℕ → Entry → Type 0
CanPut host path entry = IsReached host path × (IsDirectory (at host path) → IsDirectory (Some entry))

-- nothing stands below this path
abbrev pub HasNoneBelow : Entries → List ℕ → Type 0
HasNoneBelow host path = (other : List ℕ) → is_above path other ≡ true → at host other ≡ None

-- the last of what stands below this path, or none where nothing does
abbrev pub IsLastBelow : Entries → List ℕ → Option (List ℕ) → Type 0
IsLastBelow host path None = HasNoneBelow host path
IsLastBelow host path (Some last) = (is_above path last ≡ true) × IsSome (at host last) × HasNoneBelow host last

-- any part of what is below the path went, and else nothing
pub record LosesBelow (path : List ℕ) (host new : Entries) : Type 0 where
  pub below : (other : List ℕ) → is_above path other ≡ true → StaysOrGoes (at host other) (at new other)
  pub elsewhere : (other : List ℕ) → is_above path other ≡ false → at new other ≡ at host other
