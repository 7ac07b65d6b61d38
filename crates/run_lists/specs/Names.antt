-- Names of cookbooks, recipes and roles in items.
use Rattle.std.specs.Prelude.{ℕ, Bool, ◌&&◌, ◌||◌, ◌==◌, nat_lt, nat_le, if◌then◌else◌, List, [], ◌∷◌, length, codes, Option, Some, None, option_map}
use Rattle.std.specs.Char.{is_ascii_alphanumeric}
use Rattle.std.specs.List.{list_all}
use Rattle.run_lists.specs.declared.names.RecipeName.{RecipeName}

-- an ASCII letter, a digit, or one of `_`, `-` and `.`
abbrev pub is_item_name_byte : ℕ → Bool
is_item_name_byte b = is_ascii_alphanumeric b || (b == 95 || b == 45 || b == 46)

-- 1 to 255 bytes of an item's name
abbrev pub is_item_name : List ℕ → Bool
is_item_name bs = nat_lt 0 (length bs) && nat_le (length bs) 255 && list_all is_item_name_byte bs

-- a byte in front of the first of two parts
abbrev pub in_front : ℕ → List ℕ × List ℕ → List ℕ × List ℕ
in_front b parts = (b ∷ parts.0, parts.1)

-- what stands before the first `::` and what stands behind it, if there is one
abbrev pub parted : List ℕ → Option (List ℕ × List ℕ)
parted [] = None
parted (b ∷ []) = None
parted (b ∷ c ∷ rest) =
    if b == 58 && c == 58 then Some ([], rest) else option_map (in_front b) (parted (c ∷ rest))

-- a cookbook's name and a recipe's, where no recipe is named `default`
abbrev pub named_by : List ℕ → Option (List ℕ × List ℕ) → RecipeName
named_by name None = record { cookbook = name; recipe = codes "default" }
named_by name (Some parts) = record { cookbook = parts.0; recipe = parts.1 }

-- the recipe that a name spells: `cookbook::recipe`, or `cookbook` for its recipe `default`
abbrev pub recipe_of : List ℕ → RecipeName
recipe_of name = named_by name (parted name)

-- both names have their form
abbrev pub is_recipe_name : RecipeName → Bool
is_recipe_name name = is_item_name name.cookbook && is_item_name name.recipe
