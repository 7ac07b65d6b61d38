-- What a recipe that is to be run is told apart by, for the private clauses.
use Rattle.std.specs.Prelude.{Bool, ◌&&◌, Option, bytes_eq}
use Rattle.std.specs.Option.{option_eq}
use Rattle.dep_solver.specs.Universes.{same_version}
use Rattle.version_rules.specs.declared.versions.Version.{Version}
use Rattle.run_lists.specs.declared.names.RecipeName.{RecipeName}
use Rattle.run_lists.specs.declared.keys.RunKey.{RunKey}
use Rattle.run_lists.specs.declared.walk.Run.{Run}
use Rattle.run_lists.specs.Visits as visits

-- the key of a recipe and maybe a version
abbrev pub key_of : RecipeName → Option Version → RunKey
key_of name version = record { cookbook = name.cookbook; recipe = name.recipe; version = version }

-- a recipe to be run, by its parts
abbrev pub run_of : Run → visits.Run
run_of run = record { item = run.item.now; name = run.name.now; version = run.version }

-- the two are the key of one recipe at one version, or both at any
abbrev pub same_key : RunKey → RunKey → Bool
same_key a b = bytes_eq a.cookbook b.cookbook && (bytes_eq a.recipe b.recipe && option_eq same_version a.version b.version)
