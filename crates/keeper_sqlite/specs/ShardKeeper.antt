-- What the keeper of a shard tells.
use Rattle.std.specs.Prelude.{ℕ, Option, Some, None}
use Rattle.outside_keeper.specs.Rows.{KeptRows}
use Rattle.keeper_sqlite.specs.declared.shard_keeper.ShardKeeper.{ShardKeeper}
use Rattle.keeper_sqlite.specs.declared.shard_keeper.ShardKeeper.TheVariants.{Memory, File}

-- in memory it tells its rows, and over a file none
abbrev pub rows_told : ShardKeeper → Option KeptRows
rows_told (Memory rows) = Some rows
rows_told (File faults) = None

-- in memory it never fails
abbrev pub faults_of : ShardKeeper → ℕ
faults_of (Memory rows) = 0
faults_of (File faults) = faults
