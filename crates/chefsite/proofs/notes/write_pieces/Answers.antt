-- A front of the first two pieces is a front of all three, and so are these two with a front of the third.
use Rattle.outside_core.proofs.SinkLemmas.{GainsPart-longer, GainsPart-write, OnErr-always}
use Rattle.chefsite.proofs.notes.write_pieces.Goals as goal

pub returns-in_err-write_two-clause-failed : goal.returns-in_err-write_two-clause-failed
returns-in_err-write_two-clause-failed g c =
    OnErr-always c.from_residual.result (GainsPart-longer _ _ _ c.args.third.now c.in_err-write_two.ensures.failed)

pub returns-clause-failed : goal.returns-clause-failed
returns-clause-failed g c =
    GainsPart-write c.write.result _ _ _ _ c.args.third.now c.in_ok-write_two.ensures.ok c.write.ensures.failed
