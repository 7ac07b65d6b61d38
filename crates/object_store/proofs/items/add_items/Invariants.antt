use Rattle.std.proofs.Common.{◌≡◌, ◌||◌, ◌&&◌, List, ℕ, is_some}
use Rattle.doc_tree.specs.declared.kind.Kind.TheVariants as kind
use Rattle.object_store.specs.Keys.{key}
use Rattle.object_store.specs.Kept.{has, settled, item_among}
use Rattle.object_store.proofs.items.add_items.Given as goal

-- the items so far, and those that are left
abbrev pub invariant-loop-word : goal.invariant-loop-word
invariant-loop-word l = (name : List ℕ) →
    (has l.names name || (item_among name l.word-iterator && is_some (settled l.fn.shelves (key kind.Item name))))
    ≡ (has l.initial.names name || (item_among name l.fn.shelves.entries && is_some (settled l.fn.shelves (key kind.Item name))))
