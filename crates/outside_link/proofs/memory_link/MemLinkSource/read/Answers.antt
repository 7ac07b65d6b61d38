use Rattle.std.proofs.Common.{arith}
use Rattle.outside_link.proofs.ReadLemmas.{read_taken}
use Rattle.outside_link.proofs.memory_link.MemLinkSource.read.Goals as goal

-- the front of what was left was moved
pub returns-clause-bytes : goal.returns-clause-bytes
returns-clause-bytes c =
    rw (c.take_front.ensures.rest, ← c.self.view_is)
    (read_taken c.self.inside.input.items _ _ c.self.inside.at c.take_front.result (omega (arith, c.take_front.ensures.count)) c.take_front.ensures.bytes)
