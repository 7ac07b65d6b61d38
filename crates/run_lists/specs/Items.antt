-- Items of run lists: `recipe[..]`, `role[..]` or a bare recipe, and for recipes maybe a version.
use Rattle.std.specs.Prelude.{ℕ, ◌-◌, Bool, ◌==◌, ◌||◌, nat_eq, nat_lt, if◌then◌else◌, List, ◌++◌, length, take, drop, codes, Option, Some, None, Result, Ok, Err}
use Rattle.std.specs.List.{starts_with, ends_with, position_or_len, before_first, after_first}
use Rattle.version_rules.specs.Versions.{reads_version}
use Rattle.version_rules.specs.declared.fault.VersionFault.{VersionFault}
use Rattle.version_rules.specs.declared.versions.Version.{Version}
use Rattle.run_lists.specs.declared.item_fault.ItemFault.{ItemFault}
use Rattle.run_lists.specs.declared.item_fault.ItemFault.TheVariants.{NotAnItem, BadVersion}
use Rattle.run_lists.specs.declared.names.Named.{Named}
use Rattle.run_lists.specs.declared.names.Named.TheVariants.{Recipe, Role}
use Rattle.run_lists.specs.declared.names.RecipeName.{RecipeName}
use Rattle.run_lists.specs.Names.{is_item_name, is_recipe_name, recipe_of}

-- the sign `@`
abbrev pub is_at : ℕ → Bool
is_at b = b == 64

-- what stands behind a front, where the text begins with it
abbrev pub behind_front : List ℕ → List ℕ → Option (List ℕ)
behind_front front text = if starts_with nat_eq text front then Some (drop (length front) text) else None

-- what stands before the last byte, where that is `]`
abbrev pub before_bracket : List ℕ → Option (List ℕ)
before_bracket text = if ends_with nat_eq text (codes "]") then Some (take (length text - 1) text) else None

-- the recipe with the version that was read
abbrev pub with_version : RecipeName → Result Version VersionFault → Result Named ItemFault
with_version name (Ok version) = Ok (Recipe name (Some version))
with_version name (Err fault) = Err BadVersion

-- the recipe with the version that a text spells, if there is a text
abbrev pub versioned : RecipeName → Option (List ℕ) → Result Named ItemFault
versioned name None = Ok (Recipe name None)
versioned name (Some text) = with_version name (reads_version text)

-- what stands behind the first `@`, if there is one
abbrev pub version_text : List ℕ → Option (List ℕ)
version_text text = if nat_lt (position_or_len is_at text) (length text) then Some (after_first is_at text) else None

-- the recipe that a text spells: a recipe's name, and maybe `@` and a version
abbrev pub recipe_in : List ℕ → Result Named ItemFault
recipe_in text =
    let name = recipe_of (before_first is_at text) in
    if is_recipe_name name then versioned name (version_text text) else Err NotAnItem

-- the role that a text names
abbrev pub role_in : List ℕ → Result Named ItemFault
role_in text = if is_item_name text then Ok (Role text) else Err NotAnItem

-- what a text reads as, if there is one
abbrev pub read_by : (List ℕ → Result Named ItemFault) → Option (List ℕ) → Result Named ItemFault
read_by reads None = Err NotAnItem
read_by reads (Some text) = reads text

-- the text begins with `recipe[`
abbrev pub begins_recipe : List ℕ → Bool
begins_recipe text = starts_with nat_eq text (codes "recipe[")

-- the text begins with `role[`
abbrev pub begins_role : List ℕ → Bool
begins_role text = starts_with nat_eq text (codes "role[")

-- what the text of an item names, or why it is none: in `recipe[..]` a recipe, in `role[..]` a role, and else a recipe
abbrev pub reads_item : List ℕ → Result Named ItemFault
reads_item text =
    if begins_recipe text then read_by recipe_in (before_bracket (drop 7 text))
    else if begins_role text then read_by role_in (before_bracket (drop 5 text))
    else recipe_in text

-- a bare item is stored in `recipe[..]`, and any other as it was sent
abbrev pub stored_text : List ℕ → List ℕ
stored_text text =
    if begins_recipe text || begins_role text then text
    else codes "recipe[" ++ text ++ codes "]"
