-- What the items of run lists ask of the solver.
use Rattle.std.specs.Prelude.{Bool, List, Option, Some, None, is_some, option_map}
use Rattle.std.specs.List.{filter_map, list_any}
use Rattle.run_lists.specs.Firsts.{firsts}
use Rattle.run_lists.specs.Stored.{Stored, recipe_named, role_named}
use Rattle.run_lists.specs.declared.names.Named.{Named}
use Rattle.run_lists.specs.declared.names.Named.TheVariants.{Recipe, Role}
use Rattle.dep_solver.specs.Names.{CookbookName, same_name}
use Rattle.dep_solver.specs.declared.roots.Pin.{Pin}

-- the cookbook of the recipe that an item names, if it names one
abbrev pub cookbook_named : Stored → Option CookbookName
cookbook_named item = option_map (λ recipe. recipe.cookbook) (recipe_named item.named)

-- the pin of what an item names: a recipe's cookbook, and the version where one is stated
abbrev pub pin_of : Named → Option Pin
pin_of (Recipe recipe None) = None
pin_of (Recipe recipe (Some version)) = Some (record { name = recipe.cookbook; version = version })
pin_of (Role role) = None

-- the cookbooks of the recipe items, each where it comes first
abbrev pub names_in : List Stored → List CookbookName
names_in items = firsts same_name (filter_map cookbook_named items)

-- the pins of the recipe items that state a version, in order
abbrev pub pins_in : List Stored → List Pin
pins_in items = filter_map (λ item. pin_of item.named) items

-- one of the items is a role
abbrev pub has_role : List Stored → Bool
has_role items = list_any (λ item. is_some (role_named item.named)) items
