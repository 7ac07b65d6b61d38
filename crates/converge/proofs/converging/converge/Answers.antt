-- What is known of an outcome, over a host that may tell.
use Rattle.converge.proofs.EndLemmas.{comes_complete, comes_idle, comes_settled}
use Rattle.converge.proofs.TellsLemmas.{tells_map}
use Rattle.converge.specs.Outcomes.{ComesTo, IsComplete, IsIdle, Settles}
use Rattle.converge.proofs.converging.converge.Goals as goal

pub returns-in-None-clause-settles : goal.returns-in-None-clause-settles
returns-in-None-clause-settles g c agree =
    tells_map (ComesTo c.args.plan.now c.perform_all.result) (Settles c.args.plan.now c.perform_all.result) (λ h n is. comes_settled c.args.plan.now c.perform_all.result agree h n is)
    (g.H.Host.tells c.args.host.now) (g.H.Host.tells c.perform_all.new.host) c.perform_all.ensures.run

pub returns-in-None-clause-stays : goal.returns-in-None-clause-stays
returns-in-None-clause-stays g c offered =
    tells_map (ComesTo c.args.plan.now c.perform_all.result) (IsIdle c.args.plan.now c.perform_all.result) (λ h n is. comes_idle c.args.plan.now c.perform_all.result c.perform_all.ensures.lacks h n is)
    (g.H.Host.tells c.args.host.now) (g.H.Host.tells c.perform_all.new.host) c.perform_all.ensures.run

pub returns-in-None-clause-complete : goal.returns-in-None-clause-complete
returns-in-None-clause-complete g c offered =
    tells_map (ComesTo c.args.plan.now c.perform_all.result) (IsComplete c.args.plan.now c.perform_all.result) (λ h n is. comes_complete c.args.plan.now c.perform_all.result c.perform_all.ensures.lacks h n is)
    (g.H.Host.tells c.args.host.now) (g.H.Host.tells c.perform_all.new.host) c.perform_all.ensures.run
