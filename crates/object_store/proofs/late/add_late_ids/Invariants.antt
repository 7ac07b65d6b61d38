use Rattle.std.proofs.Common.{◌≡◌, ◌||◌, List, ℕ, is_some}
use Rattle.std.specs.Map.{lookup}
use Rattle.indexmap.specs.IndexMap.{get}
use Rattle.doc_tree.specs.declared.kind.Kind.TheVariants as kind
use Rattle.object_store.specs.Items.{item_name}
use Rattle.object_store.specs.Keys.{key, same_key}
use Rattle.object_store.specs.Kept.{has}
use Rattle.object_store.proofs.late.add_late_ids.Given as goal

-- the ids so far, and those that are left
abbrev pub invariant-loop-key : goal.invariant-loop-key
invariant-loop-key l = (id : List ℕ) →
    (has l.ids id || is_some (lookup (same_key (key kind.Item (item_name l.bag id))) l.key-iterator)) ≡ (has l.initial.ids id || is_some (get same_key l.fn.late (key kind.Item (item_name l.bag id))))
