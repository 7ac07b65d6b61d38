-- The first proper prefix of a path at which no directory stands, for the private clauses.
use Rattle.std.specs.Prelude.{◌≡◌, ℕ, ◌<◌, true, List, length, take, Option, Some, None, slice_index, ◌==◌, if◌then◌else◌}
use Rattle.host_tree.specs.Acts.{IsReached}
use Rattle.host_tree.specs.Entries.{Entries, at, IsHost}
use Rattle.host_tree.specs.Paths.{is_above}
use Rattle.host_tree.specs.declared.entry.Entry.{Entry}
use Rattle.host_tree.specs.declared.entry.Entry.TheVariants.{File, Directory, Link}
use Rattle.host_acts.specs.declared.scanning.Break.{Break}
use Rattle.host_acts.specs.declared.scanning.Obstacle.{Obstacle}
use Rattle.host_acts.specs.declared.scanning.Obstacle.TheVariants as over

-- what stands where no directory does
abbrev pub obstacle_in : Option Entry → Option Obstacle
obstacle_in None = Some over.Nothing
obstacle_in (Some (File content mode)) = Some over.File
obstacle_in (Some (Directory mode)) = None
obstacle_in (Some (Link to)) = Some over.Link

-- what stands at the proper prefix that ends at a place, where one ends there and no directory stands at it
abbrev pub obstacle_ending : Entries → List ℕ → ℕ → Option Obstacle
obstacle_ending host path end = if slice_index path end == 47 then obstacle_in (at host (take end path)) else None

-- at this proper prefix of a path stands no directory, and at each above it one does
pub record BreaksAt (host : Entries) (path : List ℕ) (found : Break) : Type 0 where
  pub whole : IsHost host
  pub first : 0 < found.end
  pub within : found.end < length path
  pub prefix : is_above (take found.end path) path ≡ true
  pub before : IsReached host (take found.end path)
  pub over : obstacle_in (at host (take found.end path)) ≡ Some found.over

-- the first proper prefix at which no directory stands was found, or there is none
abbrev pub Scanned : Entries → List ℕ → Option Break → Type 0
Scanned host path None = IsReached host path
Scanned host path (Some found) = BreaksAt host path found
