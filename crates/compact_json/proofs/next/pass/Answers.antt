-- The reader passes over the document that is next.
use Rattle.std.proofs.Common.{arith}
use Rattle.compact_json.specs.Compact.{first_doc}
use Rattle.compact_json.proofs.NextLemmas.{skips, not_skipped}
use Rattle.compact_json.proofs.next.pass.Goals as goal

pub unreachable-requires : goal.unreachable-requires
unreachable-requires c = not_skipped (first_doc c.args.reader.now) c.args.depth c.args.reader.now c.requires.at.1.0 c.requires.at.1.1 c.requires.depth (grind arith)

pub returns : goal.returns
returns c = skips (first_doc c.args.reader.now) c.args.depth c.args.reader.now c.requires.at.1.0 c.skip_value.new.self c.requires.at.1.1 c.requires.depth (grind arith)
