use Rattle.std.proofs.Common.{◌≡◌, ◌≤◌}
use Rattle.indexmap.specs.IndexMap.{spare}
use Rattle.object_store.specs.declared.key.Key.{Key}
use Rattle.object_store.specs.Kept.{found}
use Rattle.object_store.proofs.objects.settle.Given as goal

-- the same is found, and there is as much room
abbrev pub invariant-loop : goal.invariant-loop
invariant-loop l = ((k : Key) → found l.late l.shelves k ≡ found l.initial.late l.initial.shelves k) × (spare l.initial.late ≤ spare l.late)
