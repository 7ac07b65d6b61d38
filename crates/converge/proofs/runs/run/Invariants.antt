-- All own actions had their turn, and so had what was taken from the queue.
use Rattle.std.proofs.Common.{◌≡◌, ◌-◌, ◌*◌, length}
use Rattle.host_tree.specs.Told.{Tells}
use Rattle.converge.specs.Going.{IsQueueOf, IsRunning, IsTold}
use Rattle.converge.proofs.runs.run.Given as goal

abbrev pub invariant-loop-pair : goal.invariant-loop-pair
invariant-loop-pair g l =
    Tells (IsRunning l.plan l.log.acts.items l.queue.ever l.queue.taken) (g.H.Host.tells l.fn.host) (g.H.Host.tells l.host)
    × IsQueueOf l.plan (g.H.Host.offers l.fn.host) l.queue
    × (g.H.Host.offers l.host ≡ g.H.Host.offers l.fn.host)
    × (g.H.Host.faults l.host ≡ g.H.Host.faults l.fn.host)
    × IsTold l.plan l.log

abbrev pub decreases-loop-pair : goal.decreases-loop-pair
decreases-loop-pair g l = 4 * length l.plan.resources - l.queue.taken
