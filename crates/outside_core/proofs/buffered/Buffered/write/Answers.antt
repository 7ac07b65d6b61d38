use Rattle.outside_core.proofs.SinkLemmas.{GainsPart-longer, GainsPart-write, PassesOn-write, OnErr-always}
use Rattle.std.proofs.Common.{ap}
use Rattle.outside_core.specs.Buffered.{WaitingBytes}
use Rattle.outside_core.proofs.buffered.Buffered.write.Goals as goal

-- a front of what waited is a front of that and the piece
pub returns-in_err-empty-clause-failed : goal.returns-in_err-empty-clause-failed
returns-in_err-empty-clause-failed g c =
    OnErr-always c.from_residual.result (GainsPart-longer _ _ _ c.args.piece.now c.in_err-empty.ensures.failed)

-- what waited went out, and then the piece
pub returns-then-piece-self-2-clause-ok : goal.returns-then-piece-self-2-clause-ok
returns-then-piece-self-2-clause-ok g c =
    PassesOn-write c.write.result _ _ _ _ _ _ (ap (λ (b : WaitingBytes). b.waiting) c.in_ok-empty.ensures.emptied) c.in_ok-empty.ensures.ok c.write.ensures.ok

pub returns-then-piece-self-2-clause-failed : goal.returns-then-piece-self-2-clause-failed
returns-then-piece-self-2-clause-failed g c =
    GainsPart-write c.write.result _ _ _ _ _ c.in_ok-empty.ensures.ok c.write.ensures.failed
