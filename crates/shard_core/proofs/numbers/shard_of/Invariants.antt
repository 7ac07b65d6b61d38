use Rattle.std.proofs.Common.{◌≡◌, ◌<◌, ◌%◌, sum, take}
use Rattle.shard_core.proofs.numbers.shard_of.Given as goal

abbrev pub invariant-loop-byte : goal.invariant-loop-byte
invariant-loop-byte l = (l.sum ≡ sum (take l.byte-index l.name) % l.count) × (l.sum < l.count)
