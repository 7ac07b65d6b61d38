-- A front of the first piece is a front of both, and so is the first piece with a front of the second.
use Rattle.outside_core.proofs.SinkLemmas.{GainsPart-longer, GainsPart-write, OnErr-always}
use Rattle.chefsite.proofs.notes.write_two.Goals as goal

pub returns-in_err-write-clause-failed : goal.returns-in_err-write-clause-failed
returns-in_err-write-clause-failed g c =
    OnErr-always c.from_residual.result (GainsPart-longer _ _ _ c.args.second.now c.in_err-write.ensures.failed)

pub returns-clause-failed : goal.returns-clause-failed
returns-clause-failed g c =
    GainsPart-write c.write-2.result _ _ _ _ c.args.second.now c.in_ok-write.ensures.ok c.write-2.ensures.failed
