use Rattle.std.proofs.Common.{◌≡◌, ℕ, List, ◌&&◌, nat_lt}
use Rattle.shard_core.specs.Listing.{has, is_there}
use Rattle.shard_core.specs.Shards.{shard_of, site_states}
use Rattle.shard_core.proofs.listing.names_there.Given as goal

abbrev pub invariant-loop-number : goal.invariant-loop-number
invariant-loop-number l = (name : List ℕ) →
    has l.names name ≡ (nat_lt (shard_of name l.count) l.number && is_there (site_states l.shards) name)
