-- Which shard an organisation belongs to, and the states that shards keep.
use Rattle.std.specs.Prelude.{ℕ, ◌%◌, List, ◌<◌, ◌≤◌, sum, length, slice_get}
use Rattle.std.specs.Option.{option_map_or}
use Rattle.org_core.specs.FullStates.{none}
use Rattle.org_machine.specs.Alone.{States}
use Rattle.shard_core.specs.Organisations.{full_at, HasRoomFor}
use Rattle.shard_core.specs.declared.shards.Shard.{Shard}

-- the states of a shard's organisations
abbrev pub states_in : Shard → States
states_in shard name = full_at shard.organisations shard.files name

-- the number of the shard that an organisation belongs to: the sum of its name's bytes, by the number of shards
abbrev pub shard_of : List ℕ → ℕ → ℕ
shard_of name shards = sum name % shards

-- the states of all shards' organisations
abbrev pub site_states : List Shard → States
site_states shards name = option_map_or (λ shard. states_in shard name) (slice_get shards (shard_of name (length shards))) none

-- the shard can keep one more organisation without memory
abbrev pub HasRoom : Shard → Type 0
HasRoom shard = HasRoomFor shard.organisations

-- a site has 1 to 16 shards
abbrev pub IsSite : List Shard → Type 0
IsSite shards = (0 < length shards) × (length shards ≤ 16)
