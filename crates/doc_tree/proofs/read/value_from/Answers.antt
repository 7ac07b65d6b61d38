-- Bytes that aren't UTF-8 are no value, and others are what `serde_json` reads.
use Rattle.std.proofs.Common.{true≢false, sym}
use Rattle.doc_tree.proofs.Moved.{json_value-some, json_value-none}
use Rattle.doc_tree.proofs.read.value_from.Goals as goal

pub returns-in-Ok : goal.returns-in-Ok
returns-in-Ok c = json_value-some c.args.bytes.now _ c.in-Ok.ensures.ok.0 c.in-Ok.ensures.ok.1

pub returns-else-is_memory : goal.returns-else-is_memory
returns-else-is_memory c = json_value-none c.args.bytes.now (c.in-Err.ensures.err (λ m. true≢false (sym (c.if-is_memory.ensures.1 m))))
