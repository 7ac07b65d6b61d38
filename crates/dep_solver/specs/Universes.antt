-- A universe: the releases of a cookbook, and what a version of it needs.
use Rattle.std.specs.Prelude.{Bool, ◌==◌, ◌&&◌, List, [], Option, Some, None, find}
use Rattle.version_rules.specs.declared.needs.Need.{Need}
use Rattle.version_rules.specs.declared.versions.Version.{Version}
use Rattle.dep_solver.specs.declared.universe.Cookbook.{Cookbook}
use Rattle.dep_solver.specs.declared.universe.Release.{Release}
use Rattle.dep_solver.specs.declared.universe.Universe.{Universe}
use Rattle.dep_solver.specs.Names.{CookbookName, same_name}

-- the two are one version
abbrev pub same_version : Version → Version → Bool
same_version v w = v.major == w.major && (v.minor == w.minor && v.patch == w.patch)

-- the cookbook of a name, where the universe has it
abbrev pub cookbook_in : Universe → CookbookName → Option Cookbook
cookbook_in universe name = find (λ c. same_name c.name name) universe.cookbooks

abbrev pub releases_of : Option Cookbook → List Release
releases_of None = []
releases_of (Some cookbook) = cookbook.releases

-- the releases of a name, least first, and none where the universe lacks it
abbrev pub releases_in : Universe → CookbookName → List Release
releases_in universe name = releases_of (cookbook_in universe name)

abbrev pub needs_of : Option Release → List Need
needs_of None = []
needs_of (Some release) = release.needs

-- what a version of a name needs
abbrev pub needs_in : Universe → CookbookName → Version → List Need
needs_in universe name version = needs_of (find (λ r. same_version r.version version) (releases_in universe name))
