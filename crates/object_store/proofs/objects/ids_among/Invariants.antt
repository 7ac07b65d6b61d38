use Rattle.std.proofs.Common.{◌≡◌, ◌++◌, drop}
use Rattle.std.specs.List.{filter_map}
use Rattle.object_store.specs.Items.{behind_front, item_front}
use Rattle.object_store.proofs.objects.ids_among.Given as goal

-- the ids so far, and those among the names that are left
abbrev pub invariant-loop-name : goal.invariant-loop-name
invariant-loop-name l = l.ids ++ filter_map (behind_front (item_front l.bag)) (drop l.name-index l.names) ≡ filter_map (behind_front (item_front l.bag)) l.names
