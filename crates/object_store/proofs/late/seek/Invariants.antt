use Rattle.std.proofs.Common.{◌≡◌}
use Rattle.std.specs.Map.{lookup}
use Rattle.indexmap.specs.IndexMap.{get}
use Rattle.object_store.specs.Keys.{key, same_key}
use Rattle.object_store.proofs.late.seek.Given as goal

-- what is sought is among the entries that are left
abbrev pub invariant-loop-key : goal.invariant-loop-key
invariant-loop-key l = get same_key l.fn.late (key l.kind l.name) ≡ lookup (same_key (key l.kind l.name)) l.key-iterator
