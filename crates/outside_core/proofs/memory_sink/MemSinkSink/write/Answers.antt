use Rattle.std.proofs.Common.{◌-◌, take, drop, refl, sym, take-append-drop, arith}
use Rattle.outside_core.proofs.FailedLemmas.{Rose-from}
use Rattle.outside_core.proofs.memory_sink.MemSinkSink.write.Goals as goal

-- the front that fits was gained
pub returns-then-piece-free-clause-failed : goal.returns-then-piece-free-clause-failed
returns-then-piece-free-clause-failed c =
    let free = c.self.inside.room - c.len.result in
    rw (c.gain.ensures, ← c.self.view_is)
    (take free c.args.piece.now, drop free c.args.piece.now, sym (take-append-drop free c.args.piece.now), refl)

-- the call counted, and then the fault
pub returns-then-piece-free-clause-cause : goal.returns-then-piece-free-clause-cause
returns-then-piece-free-clause-cause c =
    rw (c.gain.ensures, ← c.self.view_is)
    record {
      later = omega (arith, c.call.ensures.cause.later, c.fault.ensures.later);
      failed = λ _. Rose-from _ _ _ c.call.ensures.cause.later c.fault.ensures.rose;
    }
