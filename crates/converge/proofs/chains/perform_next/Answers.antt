-- What one pair comes to, over a host that may tell.
use Rattle.std.proofs.Common.{◌≡◌, Option, ◌<◌, ◌+◌, List, ◌∷◌, reverse, Some, None, sym, subst}
use Rattle.host_acts.specs.Acts.{Performs, PerformsPart}
use Rattle.host_acts.specs.declared.verdict.Verdict.{Verdict}
use Rattle.host_acts.specs.declared.verdict.Verdict.TheVariants.{UpToDate}
use Rattle.host_tree.specs.Told.{Tells}
use Rattle.host_tree.specs.declared.fault.HostFault.TheVariants as fault
use Rattle.converge.proofs.ChainLemmas.{stopped_after, stopped_in, went_none, went_one}
use Rattle.converge.proofs.ReadyLemmas.{left_ready}
use Rattle.converge.proofs.TellsLemmas.{tells_map}
use Rattle.converge.proofs.WeightLemmas.{left_lighter}
use Rattle.converge.specs.Going.{AreReadyFires, Stopped, Went, weight, weights}
use Rattle.converge.specs.Pairs.{task_of}
use Rattle.converge.specs.declared.firing.Fire.{Fire}
use Rattle.converge.specs.declared.firing.Fire.TheVariants.{Now}
use Rattle.converge.proofs.chains.perform_next.Goals as goal

pub returns-in-Err-clause-stopped : goal.returns-in-Err-clause-stopped
returns-in-Err-clause-stopped g c =
    tells_map (PerformsPart (task_of c.args.plan.now c.args.pair)) (Stopped c.args.plan.now (Now c.args.pair ∷ reverse c.args.todo.now.items) c.args.log.now.acts.items c.args.log.now.acts.items c.in-Err.fault)
    (λ h n part. stopped_in c.args.plan.now c.args.pair (reverse c.args.todo.now.items) c.args.log.now.acts.items c.in-Err.fault h n part)
    (g.H.Host.tells c.args.host.now) (g.H.Host.tells c.perform_pair.new.host) c.in-Err.ensures.part

pub returns-in-Ok-None-clause-went : goal.returns-in-Ok-None-clause-went
returns-in-Ok-None-clause-went g c ever =
    tells_map (Performs (task_of c.args.plan.now c.args.pair) None) (Went c.args.plan.now (Now c.args.pair ∷ reverse c.args.todo.now.items) c.args.log.now.acts.items ever (reverse c.args.todo.now.items) c.args.log.now.acts.items ever)
    (λ h n done. went_none c.args.plan.now c.args.pair (reverse c.args.todo.now.items) c.args.log.now.acts.items ever h n done)
    (g.H.Host.tells c.args.host.now) (g.H.Host.tells c.perform_pair.new.host)
    (let is : c.in-Ok-None.field-0 ≡ None = cc c.in-Ok-None.field-0-is in
    subst (λ (v : Option Verdict). Tells (Performs (task_of c.args.plan.now c.args.pair) v) (g.H.Host.tells c.args.host.now) (g.H.Host.tells c.perform_pair.new.host)) is c.in-Ok-None.ensures.act)

pub returns-in-Ok-None-clause-lighter : goal.returns-in-Ok-None-clause-lighter
returns-in-Ok-None-clause-lighter g c = left_lighter c.args.plan.now c.perform_pair.ensures.sound.falls c.args.pair UpToDate (reverse c.args.todo.now.items)

pub returns-in-Ok-clause-went : goal.returns-in-Ok-clause-went
returns-in-Ok-clause-went g c ever =
    tells_map (Performs (task_of c.args.plan.now c.args.pair) (Some c.in-Ok-Some.verdict)) (Went c.args.plan.now (Now c.args.pair ∷ reverse c.args.todo.now.items) c.args.log.now.acts.items ever (reverse c.go_on.new.todo.items) c.go_on.new.log.acts.items ever)
    (λ h n done. went_one c.args.plan.now c.args.pair (reverse c.args.todo.now.items) (reverse c.go_on.new.todo.items) c.in-Ok-Some.verdict c.args.log.now.acts.items c.go_on.new.log.acts.items ever h n c.in-Ok.ensures.left c.in-Ok.ensures.noted done)
    (g.H.Host.tells c.args.host.now) (g.H.Host.tells c.perform_pair.new.host)
    (let is : c.in-Ok-Some.field-0 ≡ Some c.in-Ok-Some.verdict = cc (c.in-Ok-Some.field-0-is, c.in-Ok-Some.verdict-is) in
    subst (λ (v : Option Verdict). Tells (Performs (task_of c.args.plan.now c.args.pair) v) (g.H.Host.tells c.args.host.now) (g.H.Host.tells c.perform_pair.new.host)) is c.in-Ok-Some.ensures.act)

pub returns-in-Ok-clause-lighter : goal.returns-in-Ok-clause-lighter
returns-in-Ok-clause-lighter g c =
    subst (λ (l : List Fire). weights c.args.plan.now l < weight c.args.plan.now (Now c.args.pair) + weights c.args.plan.now (reverse c.args.todo.now.items)) (sym c.in-Ok.ensures.left)
    (left_lighter c.args.plan.now c.perform_pair.ensures.sound.falls c.args.pair c.in-Ok-Some.verdict (reverse c.args.todo.now.items))

pub returns-in-Ok-clause-ready : goal.returns-in-Ok-clause-ready
returns-in-Ok-clause-ready g c =
    subst (λ (l : List Fire). AreReadyFires c.args.plan.now (g.H.Host.offers c.args.host.now) l) (sym c.in-Ok.ensures.left)
    (left_ready c.args.plan.now (g.H.Host.offers c.args.host.now) c.args.pair c.in-Ok-Some.verdict (reverse c.args.todo.now.items) c.requires.fires c.requires.ready)

pub returns-in-Err-go_on-clause-stopped : goal.returns-in-Err-go_on-clause-stopped
returns-in-Err-go_on-clause-stopped g c =
    tells_map (Performs (task_of c.args.plan.now c.args.pair) (Some c.in-Ok-Some.verdict)) (Stopped c.args.plan.now (Now c.args.pair ∷ reverse c.args.todo.now.items) c.args.log.now.acts.items c.go_on.new.log.acts.items fault.NoMemory)
    (λ h n done. stopped_after c.args.plan.now c.args.pair (reverse c.args.todo.now.items) c.in-Ok-Some.verdict c.args.log.now.acts.items c.go_on.new.log.acts.items h n done)
    (g.H.Host.tells c.args.host.now) (g.H.Host.tells c.perform_pair.new.host)
    (let is : c.in-Ok-Some.field-0 ≡ Some c.in-Ok-Some.verdict = cc (c.in-Ok-Some.field-0-is, c.in-Ok-Some.verdict-is) in
    subst (λ (v : Option Verdict). Tells (Performs (task_of c.args.plan.now c.args.pair) v) (g.H.Host.tells c.args.host.now) (g.H.Host.tells c.perform_pair.new.host)) is c.in-Ok-Some.ensures.act)
