-- With room the insertion succeeds.
use Rattle.shard_core.proofs.ShardLemmas.{on_ok}
use Rattle.shard_core.proofs.shards.keep.Goals as goal

pub returns : goal.returns
returns c = (on_ok c.insert.result (c.insert.ensures.succeeds c.requires.room) c.insert.ensures.updates).0
