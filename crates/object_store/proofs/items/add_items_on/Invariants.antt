use Rattle.std.proofs.Common.{◌≡◌, ◌||◌, ◌&&◌, List, ℕ, is_some}
use Rattle.std.specs.List.{list_any}
use Rattle.std.specs.Map.{keys_of}
use Rattle.indexmap.specs.IndexMap.{keys}
use Rattle.doc_tree.specs.declared.kind.Kind.TheVariants as kind
use Rattle.object_store.specs.Keys.{key}
use Rattle.object_store.specs.Kept.{has, settled, item_on}
use Rattle.object_store.proofs.items.add_items_on.Given as goal

-- the items so far, and those that are left
abbrev pub invariant-loop-id : goal.invariant-loop-id
invariant-loop-id l = (name : List ℕ) →
    (has l.names name || (list_any (item_on l.word name) (keys_of l.id-iterator) && is_some (settled l.fn.shelves (key kind.Item name))))
    ≡ (has l.initial.names name || (list_any (item_on l.word name) (keys l.fn.shelf) && is_some (settled l.fn.shelves (key kind.Item name))))
