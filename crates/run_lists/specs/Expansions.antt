-- The expansion of a run list, from the events of its visit.
use Rattle.std.specs.Prelude.{◌≡◌, ◌≢◌, ℕ, Bool, ◌&&◌, List, [], Option, Some, None, map, bytes_eq}
use Rattle.std.specs.List.{filter_map}
use Rattle.std.specs.Option.{option_eq}
use Rattle.dep_solver.specs.Universes.{same_version}
use Rattle.run_lists.specs.Stored.{Stored}
use Rattle.run_lists.specs.declared.names.RecipeName.{RecipeName}
use Rattle.run_lists.specs.declared.expansion.Expansion.{Expansion}
use Rattle.run_lists.specs.declared.roles.RunLists.{RunLists}
use Rattle.run_lists.specs.Visits.{Event, run, missing, leave, Run, Visits}
use Rattle.run_lists.specs.Firsts.{firsts}

-- the recipe that an event runs, if it runs one
abbrev pub run_of : Event → Option Run
run_of (run recipe) = Some recipe
run_of (missing role) = None
run_of (leave role) = None

-- the role that isn't there, if the event is that
abbrev pub missing_of : Event → Option (List ℕ)
missing_of (run recipe) = None
missing_of (missing role) = Some role
missing_of (leave role) = None

-- the role whose visit ends, if the event is that
abbrev pub left_of : Event → Option (List ℕ)
left_of (run recipe) = None
left_of (missing role) = None
left_of (leave role) = Some role

-- the two are one recipe of one cookbook
abbrev pub same_recipe : RecipeName → RecipeName → Bool
same_recipe a b = bytes_eq a.cookbook b.cookbook && bytes_eq a.recipe b.recipe

-- the two run one recipe of one cookbook at one version, or both at any
abbrev pub same_run : Run → Run → Bool
same_run a b =
    bytes_eq a.name.cookbook b.name.cookbook && (bytes_eq a.name.recipe b.name.recipe && option_eq same_version a.version b.version)

-- the items of the recipes, one for each recipe and version, where it came first
abbrev pub items_in : List Event → List Stored
items_in events = map (λ (r : Run). r.item) (firsts same_run (filter_map run_of events))

-- the recipes, each where it came first
abbrev pub recipes_in : List Event → List RecipeName
recipes_in events = firsts same_recipe (map (λ (r : Run). r.name) (filter_map run_of events))

-- the roles, each behind those that were met below it
abbrev pub roles_in : List Event → List (List ℕ)
roles_in events = filter_map left_of events

-- the roles that aren't there, each where it was met first
abbrev pub missing_in : List Event → List (List ℕ)
missing_in events = firsts bytes_eq (filter_map missing_of events)

-- it is the expansion of these items, in which no role is missing
pub record IsExpansion (roles : List (List ℕ × RunLists)) (env : List ℕ) (items : List Stored) (expansion : Expansion) : Type 0 where
  pub events : List Event
  pub visits : Visits roles env items events
  pub whole : missing_in events ≡ []
  pub items_are : expansion.items ≡ items_in events
  pub recipes_are : expansion.recipes ≡ recipes_in events
  pub roles_are : expansion.roles ≡ roles_in events

-- these are the roles that aren't there, of which there is one
pub record AreMissing (roles : List (List ℕ × RunLists)) (env : List ℕ) (items : List Stored) (names : List (List ℕ)) : Type 0 where
  pub events : List Event
  pub visits : Visits roles env items events
  pub names_are : names ≡ missing_in events
  pub some : names ≢ []
