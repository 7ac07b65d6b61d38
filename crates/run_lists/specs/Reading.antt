-- The run lists that documents are.
use Rattle.std.specs.Prelude.{ℕ, if◌then◌else◌, List, [], ◌∷◌, Option, Some, None, option_map, option_and_then, Result, Ok, Err}
use Rattle.doc_tree.specs.Doc.{Doc, words, list, docs_list}
use Rattle.run_lists.specs.Asking.{has_role}
use Rattle.run_lists.specs.Items.{reads_item, stored_text}
use Rattle.run_lists.specs.Stored.{Stored}
use Rattle.run_lists.specs.declared.item_fault.ItemFault.{ItemFault}
use Rattle.run_lists.specs.declared.names.Named.{Named}
use Rattle.run_lists.specs.declared.reading.Allowed.{Allowed}
use Rattle.run_lists.specs.declared.reading.Allowed.TheVariants.{Items, Recipes}

-- what is made of each of these, if something is of each
abbrev pub each_of : {X Y : Type 0} → (X → Option Y) → List X → Option (List Y)
each_of make [] = Some []
each_of make (x ∷ xs) = option_and_then (λ y. option_map (λ ys. y ∷ ys) (each_of make xs)) (make x)

-- the item that a text spells
abbrev pub item_named : List ℕ → Result Named ItemFault → Option Stored
item_named text (Ok named) = Some (record { text = stored_text text; named = named })
item_named text (Err fault) = None

-- the item that a document is
abbrev pub item_of : Doc → Option Stored
item_of (words text) = item_named text (reads_item text)
item_of d = None

-- the run list that a document is: a list of items
abbrev pub run_list_of : Doc → Option (List Stored)
run_list_of (list ds) = each_of item_of (docs_list ds)
run_list_of d = None

-- the run list that a document is, where none of its items is a role
abbrev pub recipes_of : Doc → Option (List Stored)
recipes_of d = option_and_then (λ items. if has_role items then None else Some items) (run_list_of d)

-- the run list that a document is, which may hold these items
abbrev pub items_read : Allowed → Doc → Option (List Stored)
items_read Items d = run_list_of d
items_read Recipes d = recipes_of d
