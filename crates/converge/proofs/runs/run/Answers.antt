-- A run from its own actions through its queue, over a host that may tell.
use Rattle.std.proofs.Common.{◌≡◌, ℕ, suc, ◌+◌, min, List, [], ◌∷◌, length, reverse, Some, slice_get, refl, sym, ap, subst, ◌∙◌, arith}
use Rattle.std.proofs.lemmas.List.{reverse-reverse}
use Rattle.host_tree.specs.Told.{Tells}
use Rattle.host_tree.specs.declared.caps.Caps.{Caps}
use Rattle.host_tree.specs.declared.fault.HostFault.TheVariants as fault
use Rattle.notify_queue.specs.Queue.{Queued}
use Rattle.notify_queue.specs.declared.pair.Pair.{Pair}
use Rattle.converge.proofs.ReadyLemmas.{taken_ready}
use Rattle.converge.proofs.RunLemmas.{got, running_end, running_first, running_more, stopped_between, stopped_first, stopped_own, stopped_queued}
use Rattle.converge.proofs.TellsLemmas.{tells_map, tells_same, tells_then}
use Rattle.converge.specs.Going.{AreReadyFires, IsQueueOf, IsReady, IsRunning, RunStopped, Running, Stopped, Went}
use Rattle.converge.specs.Pairs.{own_fires}
use Rattle.converge.specs.Runs.{IsRunOf}
use Rattle.converge.specs.declared.deeds.Deed.{Deed}
use Rattle.converge.specs.declared.firing.Fire.{Fire}
use Rattle.converge.specs.declared.firing.Fire.TheVariants.{Now}
use Rattle.converge.proofs.runs.run.Goals as goal

pub returns-in_default-clause-stopped : goal.returns-in_default-clause-stopped
returns-in_default-clause-stopped g c =
    tells_same (RunStopped c.args.plan.now c.args.log.now.acts.items fault.NoMemory) (λ h. subst (λ (a : List Deed). RunStopped c.args.plan.now a fault.NoMemory h h) (sym c.requires.empty) (stopped_first c.args.plan.now h))
    (g.H.Host.tells c.args.host.now) (g.H.Host.tells c.args.host.now) refl

pub returns-in_default-own_fires-clause-stopped : goal.returns-in_default-own_fires-clause-stopped
returns-in_default-own_fires-clause-stopped g c =
    tells_same (RunStopped c.args.plan.now c.args.log.now.acts.items fault.NoMemory) (λ h. subst (λ (a : List Deed). RunStopped c.args.plan.now a fault.NoMemory h h) (sym c.requires.empty) (stopped_first c.args.plan.now h))
    (g.H.Host.tells c.args.host.now) (g.H.Host.tells c.args.host.now) refl

pub returns-in-Err-clause-stopped : goal.returns-in-Err-clause-stopped
returns-in-Err-clause-stopped g c =
    let work : reverse c.in-Ok-own_fires.work.items ≡ own_fires c.args.plan.now = ap reverse c.in-Ok-own_fires.ensures ∙ reverse-reverse (own_fires c.args.plan.now) in
    tells_map (Stopped c.args.plan.now (own_fires c.args.plan.now) [] c.chain.new.log.acts.items c.in-Err.fault) (RunStopped c.args.plan.now c.chain.new.log.acts.items c.in-Err.fault)
    (λ h n s. stopped_own c.args.plan.now c.chain.new.log.acts.items c.in-Err.fault h n s) (g.H.Host.tells c.args.host.now) (g.H.Host.tells c.chain.new.host)
    (subst (λ (l : List Fire). Tells (Stopped c.args.plan.now l [] c.chain.new.log.acts.items c.in-Err.fault) (g.H.Host.tells c.args.host.now) (g.H.Host.tells c.chain.new.host)) work
    (subst (λ (a : List Deed). Tells (Stopped c.args.plan.now (reverse c.in-Ok-own_fires.work.items) a c.chain.new.log.acts.items c.in-Err.fault) (g.H.Host.tells c.args.host.now) (g.H.Host.tells c.chain.new.host)) c.requires.empty c.in-Err.ensures.stopped))

pub loop-pair-init : goal.loop-pair-init
loop-pair-init g c =
    let work : reverse c.in-Ok-own_fires.work.items ≡ own_fires c.args.plan.now = ap reverse c.in-Ok-own_fires.ensures ∙ reverse-reverse (own_fires c.args.plan.now) in
    let ever : c.in-Ok.queue.ever ≡ [] = ap (λ (q : Queued). q.ever) c.in-Ok.ensures in
    let taken : c.chain.new.queue.taken ≡ 0 = c.chain.ensures.taken ∙ ap (λ (q : Queued). q.taken) c.in-Ok.ensures in (
      tells_map (Went c.args.plan.now (own_fires c.args.plan.now) [] [] [] c.chain.new.log.acts.items c.chain.new.queue.ever) (IsRunning c.args.plan.now c.chain.new.log.acts.items c.chain.new.queue.ever c.chain.new.queue.taken)
          (λ h n w. subst (λ (k : ℕ). Running c.args.plan.now c.chain.new.log.acts.items c.chain.new.queue.ever k h n) (sym taken) (running_first c.args.plan.now c.chain.new.log.acts.items c.chain.new.queue.ever h n w))
          (g.H.Host.tells c.args.host.now) (g.H.Host.tells c.chain.new.host)
          (subst (λ (l : List Fire). Tells (Went c.args.plan.now l [] [] [] c.chain.new.log.acts.items c.chain.new.queue.ever) (g.H.Host.tells c.args.host.now) (g.H.Host.tells c.chain.new.host)) work
          (subst (λ (a : List Deed). Tells (Went c.args.plan.now (reverse c.in-Ok-own_fires.work.items) a [] [] c.chain.new.log.acts.items c.chain.new.queue.ever) (g.H.Host.tells c.args.host.now) (g.H.Host.tells c.chain.new.host)) c.requires.empty
          (subst (λ (e : List Pair). Tells (Went c.args.plan.now (reverse c.in-Ok-own_fires.work.items) c.args.log.now.acts.items e [] c.chain.new.log.acts.items c.chain.new.queue.ever) (g.H.Host.tells c.args.host.now) (g.H.Host.tells c.chain.new.host)) ever c.in_default-chain.ensures.went))),
      c.chain.ensures.queue,
      c.chain.ensures.offers,
      c.chain.ensures.cause.unfailed (λ is. cc),
      c.chain.ensures.told (λ is. cc),
    )

pub returns-in_default-one-clause-stopped : goal.returns-in_default-one-clause-stopped
returns-in_default-one-clause-stopped g c =
    tells_map (IsRunning c.args.plan.now c.loop-pair.log.acts.items c.loop-pair.queue.ever c.loop-pair.queue.taken) (RunStopped c.args.plan.now c.loop-pair.log.acts.items fault.NoMemory)
    (λ h n r. stopped_between c.args.plan.now c.loop-pair.log.acts.items c.loop-pair.queue.ever c.loop-pair.queue.taken h n r) (g.H.Host.tells c.args.host.now) (g.H.Host.tells c.loop-pair.host) c.loop-pair.invariant.0

pub chain-requires-in-Some-clause-ready : goal.chain-requires-in-Some-clause-ready
chain-requires-in-Some-clause-ready g c =
    let ready : IsReady c.args.plan.now (g.H.Host.offers c.args.host.now) c.in-Some.pair = taken_ready c.args.plan.now (g.H.Host.offers c.args.host.now) c.loop-pair.queue.ever c.loop-pair.queue.taken c.in-Some.pair c.loop-pair.invariant.1.ready (sym c.in-Some.ensures.value) in
    subst (λ (fs : List Fire). AreReadyFires c.args.plan.now (g.H.Host.offers c.loop-pair.host) (reverse fs)) (sym c.in-Ok-one.ensures)
    (subst (λ (caps : Caps). IsReady c.args.plan.now caps c.in-Some.pair) (sym c.loop-pair.invariant.2) ready, tt)

pub returns-in-Err-chain-clause-stopped : goal.returns-in-Err-chain-clause-stopped
returns-in-Err-chain-clause-stopped g c =
    tells_then (IsRunning c.args.plan.now c.loop-pair.log.acts.items c.loop-pair.queue.ever c.loop-pair.queue.taken) (Stopped c.args.plan.now (Now c.in-Some.pair ∷ []) c.loop-pair.log.acts.items c.chain-in-Some.new.log.acts.items c.in-Err-chain.fault)
    (RunStopped c.args.plan.now c.chain-in-Some.new.log.acts.items c.in-Err-chain.fault)
    (λ h m n r s. stopped_queued c.args.plan.now c.loop-pair.log.acts.items c.chain-in-Some.new.log.acts.items c.loop-pair.queue.ever c.loop-pair.queue.taken c.in-Some.pair c.in-Err-chain.fault h m n (sym c.in-Some.ensures.value) r s)
    (g.H.Host.tells c.args.host.now) (g.H.Host.tells c.loop-pair.host) (g.H.Host.tells c.chain-in-Some.new.host) c.loop-pair.invariant.0
    (subst (λ (fs : List Fire). Tells (Stopped c.args.plan.now (reverse fs) c.loop-pair.log.acts.items c.chain-in-Some.new.log.acts.items c.in-Err-chain.fault) (g.H.Host.tells c.loop-pair.host) (g.H.Host.tells c.chain-in-Some.new.host)) c.in-Ok-one.ensures c.in-Err-chain.ensures.stopped)

-- one more was taken
one_taken : (ever : List Pair) (k m n : ℕ) (p : Pair) → Some p ≡ slice_get ever k → m ≡ min (k + 1) (length ever) → n ≡ m → n ≡ suc k
one_taken ever k m n p at is same = let less = got ever k p (sym at) in omega arith

pub loop-pair-smaller : goal.loop-pair-smaller
loop-pair-smaller g c =
    let taken : c.chain-in-Some.new.queue.taken ≡ suc c.loop-pair.queue.taken = one_taken c.loop-pair.queue.ever c.loop-pair.queue.taken c.next.new.self.taken c.chain-in-Some.new.queue.taken c.in-Some.pair c.in-Some.ensures.value (ap (λ (q : Queued). q.taken) c.next.ensures.after) c.chain-in-Some.ensures.taken in
    let bound = c.in-Some.ensures.bound refl in
    let size = c.loop-pair.invariant.1.size in
    omega arith

pub loop-pair-preserved : goal.loop-pair-preserved
loop-pair-preserved g c =
    let taken : c.chain-in-Some.new.queue.taken ≡ suc c.loop-pair.queue.taken = one_taken c.loop-pair.queue.ever c.loop-pair.queue.taken c.next.new.self.taken c.chain-in-Some.new.queue.taken c.in-Some.pair c.in-Some.ensures.value (ap (λ (q : Queued). q.taken) c.next.ensures.after) c.chain-in-Some.ensures.taken in (
      tells_then (IsRunning c.args.plan.now c.loop-pair.log.acts.items c.loop-pair.queue.ever c.loop-pair.queue.taken)
          (Went c.args.plan.now (Now c.in-Some.pair ∷ []) c.loop-pair.log.acts.items c.loop-pair.queue.ever [] c.chain-in-Some.new.log.acts.items c.chain-in-Some.new.queue.ever)
          (IsRunning c.args.plan.now c.chain-in-Some.new.log.acts.items c.chain-in-Some.new.queue.ever c.chain-in-Some.new.queue.taken)
          (λ h m n r w. subst (λ (k : ℕ). Running c.args.plan.now c.chain-in-Some.new.log.acts.items c.chain-in-Some.new.queue.ever k h n) (sym taken)
          (running_more c.args.plan.now c.loop-pair.log.acts.items c.chain-in-Some.new.log.acts.items c.loop-pair.queue.ever c.chain-in-Some.new.queue.ever c.loop-pair.queue.taken c.in-Some.pair h m n (sym c.in-Some.ensures.value) r w))
          (g.H.Host.tells c.args.host.now) (g.H.Host.tells c.loop-pair.host) (g.H.Host.tells c.chain-in-Some.new.host) c.loop-pair.invariant.0
          (subst (λ (e : List Pair). Tells (Went c.args.plan.now (Now c.in-Some.pair ∷ []) c.loop-pair.log.acts.items e [] c.chain-in-Some.new.log.acts.items c.chain-in-Some.new.queue.ever) (g.H.Host.tells c.loop-pair.host) (g.H.Host.tells c.chain-in-Some.new.host)) (ap (λ (q : Queued). q.ever) c.next.ensures.after)
          (subst (λ (fs : List Fire). Tells (Went c.args.plan.now (reverse fs) c.loop-pair.log.acts.items c.next.new.self.ever [] c.chain-in-Some.new.log.acts.items c.chain-in-Some.new.queue.ever) (g.H.Host.tells c.loop-pair.host) (g.H.Host.tells c.chain-in-Some.new.host)) c.in-Ok-one.ensures c.in_default-chain-2.ensures.went)),
      subst (λ (caps : Caps). IsQueueOf c.args.plan.now caps c.chain-in-Some.new.queue) c.loop-pair.invariant.2 c.chain-in-Some.ensures.queue,
      c.chain-in-Some.ensures.offers ∙ c.loop-pair.invariant.2,
      c.chain-in-Some.ensures.cause.unfailed (λ is. cc) ∙ c.loop-pair.invariant.3,
      c.chain-in-Some.ensures.told (λ is. cc),
    )

pub returns-clause-run : goal.returns-clause-run
returns-clause-run g c =
    tells_map (IsRunning c.args.plan.now c.loop-pair.log.acts.items c.loop-pair.queue.ever c.loop-pair.queue.taken) (IsRunOf c.args.plan.now c.loop-pair.log.acts.items)
    (λ h n r. running_end c.args.plan.now c.loop-pair.log.acts.items c.loop-pair.queue.ever c.loop-pair.queue.taken h n (sym c.next.ensures.value ∙ c.in_default-next.is) r)
    (g.H.Host.tells c.args.host.now) (g.H.Host.tells c.loop-pair.host) c.loop-pair.invariant.0
