-- What an item that was read without memory names.
use Rattle.std.specs.Prelude.{IsTrue, Result, Ok, Err}
use Rattle.run_lists.specs.declared.item_fault.ItemFault.{ItemFault}
use Rattle.run_lists.specs.declared.names.Named.{Named}
use Rattle.run_lists.specs.declared.names.Named.TheVariants as named
use Rattle.run_lists.specs.declared.names.RecipeName.{RecipeName}
use Rattle.run_lists.specs.declared.spelling.Spelled.{Spelled}
use Rattle.run_lists.specs.declared.spelling.Spelled.TheVariants as spelled
use Rattle.run_lists.specs.declared.spelling.SpelledRecipe.{SpelledRecipe}
use Rattle.run_lists.specs.Names.{is_item_name}

-- the recipe's name, by its texts
abbrev pub names_of : SpelledRecipe → RecipeName
names_of name = record { cookbook = name.cookbook.now; recipe = name.recipe.now }

-- what is spelled, by its texts
abbrev pub named_of : Spelled → Named
named_of (spelled.Recipe name version) = named.Recipe (names_of name) version
named_of (spelled.Role name) = named.Role name.now

-- each name that is spelled has the form of an item's name
abbrev pub HasItemNames : Spelled → Type 0
HasItemNames (spelled.Recipe name version) = IsTrue (is_item_name name.cookbook.now) × IsTrue (is_item_name name.recipe.now)
HasItemNames (spelled.Role name) = IsTrue (is_item_name name.now)

-- the same outcome, by its texts
abbrev pub outcome_of : Result Spelled ItemFault → Result Named ItemFault
outcome_of (Ok item) = Ok (named_of item)
outcome_of (Err fault) = Err fault
