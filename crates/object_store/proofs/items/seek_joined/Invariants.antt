use Rattle.std.proofs.Common.{◌≡◌, bytes_eq, string_bytes}
use Rattle.std.specs.Map.{lookup}
use Rattle.indexmap.specs.IndexMap.{get_by_text}
use Rattle.object_store.specs.Items.{item_name}
use Rattle.object_store.proofs.items.seek_joined.Given as goal

-- what is sought is among the entries that are left
abbrev pub invariant-loop-name : goal.invariant-loop-name
invariant-loop-name l = get_by_text l.fn.shelf (item_name l.bag l.id) ≡ lookup (λ k. bytes_eq (item_name l.bag l.id) (string_bytes k)) l.name-iterator
