-- The work list was gone on with so far, and grows lighter.
use Rattle.std.proofs.Common.{◌≡◌, reverse}
use Rattle.host_tree.specs.Told.{Tells}
use Rattle.converge.specs.Going.{AreReadyFires, IsQueueOf, IsTold, Went, weights}
use Rattle.converge.proofs.chains.chain.Given as goal

abbrev pub invariant-loop-fire : goal.invariant-loop-fire
invariant-loop-fire g l =
    Tells (Went l.plan (reverse l.fn.work.items) l.fn.log.acts.items l.fn.queue.ever (reverse l.todo.items) l.log.acts.items l.queue.ever) (g.H.Host.tells l.fn.host) (g.H.Host.tells l.host)
    × AreReadyFires l.plan (g.H.Host.offers l.fn.host) (reverse l.todo.items)
    × IsQueueOf l.plan (g.H.Host.offers l.fn.host) l.queue
    × (g.H.Host.offers l.host ≡ g.H.Host.offers l.fn.host)
    × (g.H.Host.faults l.host ≡ g.H.Host.faults l.fn.host)
    × (l.queue.taken ≡ l.fn.queue.taken)
    × IsTold l.plan l.log

abbrev pub decreases-loop-fire : goal.decreases-loop-fire
decreases-loop-fire g l = weights l.plan (reverse l.todo.items)
