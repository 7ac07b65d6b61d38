use Rattle.std.proofs.Common.{◌≡◌, ◌||◌, List, ℕ, is_some}
use Rattle.std.specs.Map.{lookup}
use Rattle.indexmap.specs.IndexMap.{get}
use Rattle.object_store.specs.Keys.{key, same_key}
use Rattle.object_store.specs.Kept.{has}
use Rattle.object_store.proofs.late.add_late_names.Given as goal

-- the names so far, and those that are left
abbrev pub invariant-loop-key : goal.invariant-loop-key
invariant-loop-key l = (name : List ℕ) →
    (has l.names name || is_some (lookup (same_key (key l.kind name)) l.key-iterator)) ≡ (has l.initial.names name || is_some (get same_key l.fn.late (key l.kind name)))
