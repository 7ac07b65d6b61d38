-- The values of a cookbook: 0 where it isn't chosen, else its release, the newest being 1, and 63 for all that are older than the 62nd.
use Rattle.std.specs.Prelude.{ℕ, suc, ◌-◌, min, length, List, [], ◌∷◌, Option, Some, None, slice_get, if◌then◌else◌}
use Rattle.std.specs.FinMap as finite
use Rattle.version_rules.specs.declared.versions.Version.{Version}
use Rattle.dep_solver.specs.declared.universe.Cookbook.{Cookbook}
use Rattle.dep_solver.specs.declared.universe.Release.{Release}
use Rattle.dep_solver.specs.declared.universe.Universe.{Universe}
use Rattle.dep_solver.specs.Solutions.{Choice}
use Rattle.dep_solver.specs.Universes.{same_version}

-- the index of the first release of the version, and the number of releases where none has it
abbrev pub index_of : List Release → Version → ℕ
index_of [] version = 0
index_of (release ∷ releases) version = if same_version release.version version then 0 else suc (index_of releases version)

-- the value of a version among the releases, and 0 of none and of one that isn't released
abbrev pub value_of : List Release → Option Version → ℕ
value_of releases None = 0
value_of releases (Some version) = min (length releases - index_of releases version) 63

-- the value that the choice has of a cookbook
abbrev pub value_in : Choice → Option Cookbook → ℕ
value_in choice None = 0
value_in choice (Some cookbook) = value_of cookbook.releases (finite.get choice cookbook.name)

-- the value that the choice has of the cookbook at an index
abbrev pub value_at : Universe → Choice → ℕ → ℕ
value_at universe choice index = value_in choice (slice_get universe.cookbooks index)
