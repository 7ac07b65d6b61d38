-- One step more of a work list, over a host that may tell.
use Rattle.std.proofs.Common.{◌≡◌, List, [], ◌∷◌, ◌++◌, reverse, refl, sym, ap, subst, ◌∙◌}
use Rattle.std.proofs.lemmas.List.{reverse-append}
use Rattle.host_tree.specs.Told.{Tells}
use Rattle.host_tree.specs.declared.caps.Caps.{Caps}
use Rattle.converge.proofs.ChainLemmas.{stopped_then, went_not, went_then}
use Rattle.converge.proofs.TellsLemmas.{tells_same, tells_then}
use Rattle.converge.specs.Going.{AreReadyFires, IsQueueOf, Stopped, Went}
use Rattle.converge.specs.declared.firing.Fire.{Fire}
use Rattle.converge.proofs.chains.chain.Goals as goal

pub loop-fire-init : goal.loop-fire-init
loop-fire-init g c = (
  tells_same (Went c.args.plan.now (reverse c.args.work.items) c.args.log.now.acts.items c.args.queue.now.ever (reverse c.args.work.items) c.args.log.now.acts.items c.args.queue.now.ever)
      (λ h. went_not c.args.plan.now (reverse c.args.work.items) c.args.log.now.acts.items c.args.queue.now.ever h) (g.H.Host.tells c.args.host.now) (g.H.Host.tells c.args.host.now) refl,
  c.requires.ready,
  c.requires.queue,
  refl,
  refl,
  refl,
  c.requires.told,
)

-- the work list before the step
turned : (popped : List Fire) (fire : Fire) (todo : List Fire) → todo ≡ popped ++ fire ∷ [] → fire ∷ reverse popped ≡ reverse todo
turned popped fire todo is = sym (ap reverse is ∙ reverse-append popped (fire ∷ []))

pub returns-in-Err-clause-stopped : goal.returns-in-Err-clause-stopped
returns-in-Err-clause-stopped g c =
    let back : c.in-Some.fire ∷ reverse c.pop.new.self.items ≡ reverse c.loop-fire.todo.items = turned c.pop.new.self.items c.in-Some.fire c.loop-fire.todo.items c.in-Some.ensures.items in
    tells_then (Went c.args.plan.now (reverse c.args.work.items) c.args.log.now.acts.items c.args.queue.now.ever (reverse c.loop-fire.todo.items) c.loop-fire.log.acts.items c.loop-fire.queue.ever)
    (Stopped c.args.plan.now (reverse c.loop-fire.todo.items) c.loop-fire.log.acts.items c.turn.new.log.acts.items c.in-Err.fault)
    (Stopped c.args.plan.now (reverse c.args.work.items) c.args.log.now.acts.items c.turn.new.log.acts.items c.in-Err.fault)
    (λ h m n one two. stopped_then c.args.plan.now (reverse c.args.work.items) (reverse c.loop-fire.todo.items) c.args.log.now.acts.items c.loop-fire.log.acts.items c.turn.new.log.acts.items c.args.queue.now.ever c.loop-fire.queue.ever c.in-Err.fault h m n one two)
    (g.H.Host.tells c.args.host.now) (g.H.Host.tells c.loop-fire.host) (g.H.Host.tells c.turn.new.host) c.loop-fire.invariant.0
    (subst (λ (l : List Fire). Tells (Stopped c.args.plan.now l c.loop-fire.log.acts.items c.turn.new.log.acts.items c.in-Err.fault) (g.H.Host.tells c.loop-fire.host) (g.H.Host.tells c.turn.new.host)) back c.in-Err.ensures.stopped)

pub loop-fire-preserved : goal.loop-fire-preserved
loop-fire-preserved g c =
    let back : c.in-Some.fire ∷ reverse c.pop.new.self.items ≡ reverse c.loop-fire.todo.items = turned c.pop.new.self.items c.in-Some.fire c.loop-fire.todo.items c.in-Some.ensures.items in (
      tells_then (Went c.args.plan.now (reverse c.args.work.items) c.args.log.now.acts.items c.args.queue.now.ever (reverse c.loop-fire.todo.items) c.loop-fire.log.acts.items c.loop-fire.queue.ever)
          (Went c.args.plan.now (reverse c.loop-fire.todo.items) c.loop-fire.log.acts.items c.loop-fire.queue.ever (reverse c.turn.new.todo.items) c.turn.new.log.acts.items c.turn.new.queue.ever)
          (Went c.args.plan.now (reverse c.args.work.items) c.args.log.now.acts.items c.args.queue.now.ever (reverse c.turn.new.todo.items) c.turn.new.log.acts.items c.turn.new.queue.ever)
          (λ h m n one two. went_then c.args.plan.now (reverse c.args.work.items) (reverse c.loop-fire.todo.items) (reverse c.turn.new.todo.items) c.args.log.now.acts.items c.loop-fire.log.acts.items c.turn.new.log.acts.items c.args.queue.now.ever c.loop-fire.queue.ever c.turn.new.queue.ever h m n one two)
          (g.H.Host.tells c.args.host.now) (g.H.Host.tells c.loop-fire.host) (g.H.Host.tells c.turn.new.host) c.loop-fire.invariant.0
          (subst (λ (l : List Fire). Tells (Went c.args.plan.now l c.loop-fire.log.acts.items c.loop-fire.queue.ever (reverse c.turn.new.todo.items) c.turn.new.log.acts.items c.turn.new.queue.ever) (g.H.Host.tells c.loop-fire.host) (g.H.Host.tells c.turn.new.host)) back c.in_default-turn.ensures.went),
      subst (λ (caps : Caps). AreReadyFires c.args.plan.now caps (reverse c.turn.new.todo.items)) c.loop-fire.invariant.3 c.in_default-turn.ensures.ready,
      subst (λ (caps : Caps). IsQueueOf c.args.plan.now caps c.turn.new.queue) c.loop-fire.invariant.3 c.turn.ensures.queue,
      c.turn.ensures.offers ∙ c.loop-fire.invariant.3,
      c.turn.ensures.cause.unfailed (λ is. cc) ∙ c.loop-fire.invariant.4,
      c.turn.ensures.taken ∙ c.loop-fire.invariant.5,
      c.turn.ensures.told (λ is. cc),
    )
