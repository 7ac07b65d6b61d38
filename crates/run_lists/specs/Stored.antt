-- An item as contracts see it.
use Rattle.std.specs.Prelude.{ℕ, List, Option, Some, None}
use Rattle.version_rules.specs.declared.versions.Version.{Version}
use Rattle.run_lists.specs.declared.names.Named.{Named}
use Rattle.run_lists.specs.declared.names.Named.TheVariants.{Recipe, Role}
use Rattle.run_lists.specs.declared.names.RecipeName.{RecipeName}

-- the text as it is stored, and what it names
pub record Stored : Type 0 where
  pub text : List ℕ
  pub named : Named

-- the recipe that an item names, if it names one
abbrev pub recipe_named : Named → Option RecipeName
recipe_named (Recipe name version) = Some name
recipe_named (Role name) = None

-- the version that an item has, if it has one
abbrev pub version_named : Named → Option Version
version_named (Recipe name version) = version
version_named (Role name) = None

-- the role that an item names, if it names one
abbrev pub role_named : Named → Option (List ℕ)
role_named (Recipe name version) = None
role_named (Role name) = Some name
