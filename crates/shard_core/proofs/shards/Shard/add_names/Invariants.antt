use Rattle.std.proofs.Common.{◌≡◌, ℕ, List, ◌||◌}
use Rattle.std.specs.List.{list_any}
use Rattle.shard_core.specs.Listing.{has, shows}
use Rattle.shard_core.proofs.shards.Shard.add_names.Given as goal

abbrev pub invariant-loop-name : goal.invariant-loop-name
invariant-loop-name l = record {
  names : (name : List ℕ) →
      (has l.names name || list_any (shows l.number l.count name) l.name-iterator)
      ≡ (has l.fn.names name || list_any (shows l.number l.count name) l.self.organisations.entries);
}
