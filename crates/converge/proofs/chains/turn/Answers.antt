-- A pair is performed at once, or queued.
use Rattle.std.proofs.Common.{OnOk, ◌∷◌, reverse, refl, sym, ap, subst}
use Rattle.host_tree.specs.Told.{Tells}
use Rattle.notify_queue.specs.Queue.{Queued}
use Rattle.converge.proofs.ChainLemmas.{went_queued}
use Rattle.converge.proofs.ReadyLemmas.{queue_ready}
use Rattle.converge.proofs.TellsLemmas.{tells_same}
use Rattle.converge.specs.Going.{IsReady, Went}
use Rattle.converge.specs.Settled.{fired_pair}
use Rattle.converge.specs.declared.firing.Fire.{Fire}
use Rattle.converge.specs.declared.firing.Fire.TheVariants.{Later}
use Rattle.converge.proofs.chains.turn.Goals as goal

pub returns-in-Now-clause-went : goal.returns-in-Now-clause-went
returns-in-Now-clause-went g c =
    subst (λ (f : Fire). OnOk c.perform_next.result (Tells (Went c.args.plan.now (f ∷ reverse c.args.todo.now.items) c.args.log.now.acts.items c.args.queue.now.ever (reverse c.perform_next.new.todo.items) c.perform_next.new.log.acts.items c.args.queue.now.ever) (g.H.Host.tells c.args.host.now) (g.H.Host.tells c.perform_next.new.host)))
    (sym c.in-Now.is) (c.perform_next.ensures.went c.args.queue.now.ever)

pub returns-in-Later-clause-went : goal.returns-in-Later-clause-went
returns-in-Later-clause-went g c =
    subst (λ (f : Fire). Tells (Went c.args.plan.now (f ∷ reverse c.args.todo.now.items) c.args.log.now.acts.items c.args.queue.now.ever (reverse c.args.todo.now.items) c.args.log.now.acts.items c.queue.new.self.ever) (g.H.Host.tells c.args.host.now) (g.H.Host.tells c.args.host.now))
    (sym c.in-Later.is)
    (tells_same (Went c.args.plan.now (Later c.in-Later.pair ∷ reverse c.args.todo.now.items) c.args.log.now.acts.items c.args.queue.now.ever (reverse c.args.todo.now.items) c.args.log.now.acts.items c.queue.new.self.ever)
    (λ h. went_queued c.args.plan.now c.in-Later.pair (reverse c.args.todo.now.items) c.args.log.now.acts.items c.args.queue.now.ever c.queue.new.self.ever h (ap (λ (q : Queued). q.ever) c.queue.ensures))
    (g.H.Host.tells c.args.host.now) (g.H.Host.tells c.args.host.now) refl)

pub returns-in-Later-clause-queue : goal.returns-in-Later-clause-queue
returns-in-Later-clause-queue g c =
    queue_ready c.args.plan.now (g.H.Host.offers c.args.host.now) c.args.queue.now c.queue.new.self c.in-Later.pair c.requires.queue
    (subst (λ (f : Fire). IsReady c.args.plan.now (g.H.Host.offers c.args.host.now) (fired_pair f)) c.in-Later.is c.requires.next) c.queue.ensures
