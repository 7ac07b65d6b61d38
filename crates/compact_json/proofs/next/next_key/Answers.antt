-- A key is next, or the brace that closes the dict.
use Rattle.std.proofs.Common.{arith}
use Rattle.compact_json.proofs.NextLemmas.{has_key}
use Rattle.compact_json.proofs.next.next_key.Goals as goal

pub unreachable-requires : goal.unreachable-requires
unreachable-requires c = has_key c.requires.0 c.args.reader.now c.requires.1.0 c.requires.1.1 (grind arith)
