-- What the finder of a site holds.
use Rattle.object_finder.specs.Held.{Held}
use Rattle.shard_core.specs.declared.indexed.Indexed.{Indexed}
use Rattle.shard_core.specs.Holding.{held_of}

-- what it holds is what its index does
abbrev pub held_in : Indexed → Held
held_in finder = held_of finder.index
