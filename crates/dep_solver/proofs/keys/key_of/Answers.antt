use Rattle.dep_solver.proofs.MarkLemmas.{key_all, key_more}
use Rattle.dep_solver.proofs.keys.key_of.Goals as goal

pub loop-byte-preserved : goal.loop-byte-preserved
loop-byte-preserved c = key_more c.loop-byte.key _ _ c.as_bytes-byte-items.result.now c.loop-byte.byte-index _ c.loop-byte-test.true c.loop-byte.invariant c.with_byte-key.ensures

pub returns : goal.returns
returns c = key_all c.loop-byte.key _ c.as_bytes-byte-items.result.now c.loop-byte.byte-index c.loop-byte-test.false c.loop-byte.invariant
