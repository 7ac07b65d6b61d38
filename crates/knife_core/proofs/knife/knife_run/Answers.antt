use Rattle.knife_core.proofs.EndLemmas.{Says-none}
use Rattle.knife_core.proofs.knife.knife_run.Goals as goal

pub returns-in-Err-clause-says : goal.returns-in-Err-clause-says
returns-in-Err-clause-says g c =
    Says-none c.args.whom.now c.args.errand.now (g.D.Disk.files c.args.disk.now) (g.L.Source.left c.args.link.now) (g.L.Sink.gained c.args.link.now) (g.W.Sink.gained c.args.out.now)
