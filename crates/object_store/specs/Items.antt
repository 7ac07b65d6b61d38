-- Items of data bags: the names under which they are kept, and their ids.
use Rattle.std.specs.Prelude.{ℕ, nat_eq, if◌then◌else◌, List, ◌++◌, length, drop, codes, Option, Some, None}
use Rattle.std.specs.List.{filter_map, starts_with}
use Rattle.doc_tree.specs.declared.kind.Kind.TheVariants as kind
use Rattle.object_store.specs.Objects.{Objects, names_in}

-- what stands behind a front, where the text begins with it
abbrev pub behind_front : List ℕ → List ℕ → Option (List ℕ)
behind_front front text = if starts_with nat_eq text front then Some (drop (length front) text) else None

-- the front of the names under which a bag's items are kept
abbrev pub item_front : List ℕ → List ℕ
item_front bag = bag ++ codes "/"

-- the name under which an item is kept
abbrev pub item_name : List ℕ → List ℕ → List ℕ
item_name bag id = item_front bag ++ id

-- the ids of a bag's items, in order
abbrev pub ids_in : List ℕ → Objects → List (List ℕ)
ids_in bag objects = filter_map (behind_front (item_front bag)) (names_in kind.Item objects)
