-- A plan that lacks nothing is run, and its end told.
use Rattle.converge.proofs.EndLemmas.{comes_end}
use Rattle.converge.proofs.ReadyLemmas.{fires_ready, own_ready}
use Rattle.converge.proofs.TellsLemmas.{tells_map}
use Rattle.converge.specs.Outcomes.{ComesTo}
use Rattle.converge.specs.Runs.{IsRunOf}
use Rattle.converge.proofs.converging.perform_all.Goals as goal

pub run-requires-clause-owns : goal.run-requires-clause-owns
run-requires-clause-owns g c = own_ready c.args.plan.now (g.H.Host.offers c.args.host.now) c.requires.sound c.requires.offered

pub run-requires-clause-fires : goal.run-requires-clause-fires
run-requires-clause-fires g c = fires_ready c.args.plan.now (g.H.Host.offers c.args.host.now) c.requires.sound c.requires.offered

pub returns-in-Ok-clause-run : goal.returns-in-Ok-clause-run
returns-in-Ok-clause-run g c =
    tells_map (IsRunOf c.args.plan.now c.run.new.log.acts.items) (ComesTo c.args.plan.now c.end_of.result)
    (λ h n run. comes_end c.args.plan.now c.run.new.log.acts.items c.run.new.log.lines c.end_of.result (c.run.ensures.told (λ is. cc)) c.end_of.ensures h n run)
    (g.H.Host.tells c.args.host.now) (g.H.Host.tells c.run.new.host) c.in-Ok.ensures.run
