-- The files in which the rows of shards are kept.
use Rattle.std.specs.Prelude.{ℕ, List, ◌++◌, codes, decimal}

-- the path of the file of a shard, by its number and by how many shards there are, in a folder
abbrev pub path_of : List ℕ → ℕ → ℕ → List ℕ
path_of folder shard shards = folder ++ codes "/shard-" ++ decimal shard ++ codes "-of-" ++ decimal shards ++ codes ".db"
