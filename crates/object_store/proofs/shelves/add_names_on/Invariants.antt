use Rattle.std.proofs.Common.{◌≡◌, ◌||◌, List, ℕ, is_some, bytes_eq, string_bytes}
use Rattle.std.specs.Map.{lookup}
use Rattle.indexmap.specs.IndexMap.{get_by_text}
use Rattle.object_store.specs.Kept.{has}
use Rattle.object_store.proofs.shelves.add_names_on.Given as goal

-- the names so far, and those that are left
abbrev pub invariant-loop-name : goal.invariant-loop-name
invariant-loop-name l = (name : List ℕ) →
    (has l.names name || is_some (lookup (λ k. bytes_eq name (string_bytes k)) l.name-iterator)) ≡ (has l.initial.names name || is_some (get_by_text l.fn.shelf name))
