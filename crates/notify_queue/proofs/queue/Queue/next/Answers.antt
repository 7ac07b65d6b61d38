-- What contracts see, once a pair was taken, or where none waits.
use Rattle.std.proofs.Common.{◌∙◌, ◌<◌, ◌*◌, ap, subst, sym, Some, slice_get}
use Rattle.notify_queue.proofs.KeptLemmas.{Rests, Takes, rests, takes}
use Rattle.notify_queue.specs.Queue.{IsWithin, Queued, next}
use Rattle.notify_queue.specs.declared.pair.Pair.{Pair}
use Rattle.notify_queue.proofs.queue.Queue.next.Goals as goal

took : (c : goal.After-pair_at) → Takes c.self.inside.links c.take.new.self c.self.inside.taken c.self.inside.resources c.in-Some.place
took c = takes c.self.inside.links c.take.new.self c.self.inside.taken c.self.inside.resources c.in-Some.place c.self.invariant c.take.ensures.after (sym c.take.ensures.value ∙ c.in-Some.is)

rested : (c : goal.In-None) → Rests c.self.inside.links c.take.new.self c.self.inside.taken c.self.inside.resources
rested c = rests c.self.inside.links c.take.new.self c.self.inside.taken c.self.inside.resources c.self.invariant c.take.ensures.after (sym c.take.ensures.value ∙ c.in-None.is)

pub invariant_of-self-in-Some : goal.invariant_of-self-in-Some
invariant_of-self-in-Some c = (took c).kept

pub returns-in-None-clause-value : goal.returns-in-None-clause-value
returns-in-None-clause-value c = sym (rested c).value ∙ ap (λ (q : Queued). slice_get q.ever q.taken) c.self.view_is

pub returns-in-None-clause-after : goal.returns-in-None-clause-after
returns-in-None-clause-after c = (rested c).after ∙ ap next c.self.view_is

pub returns-in-Some-clause-value : goal.returns-in-Some-clause-value
returns-in-Some-clause-value c = ap Some c.pair_at.ensures ∙ (took c).value ∙ ap (λ (q : Queued). slice_get q.ever q.taken) c.self.view_is

pub returns-in-Some-clause-after : goal.returns-in-Some-clause-after
returns-in-Some-clause-after c = (took c).after ∙ ap next c.self.view_is

pub returns-in-Some-clause-within : goal.returns-in-Some-clause-within
returns-in-Some-clause-within c =
    subst (λ (q : Queued). IsWithin q.resources c.pair_at.result) c.self.view_is (subst (λ (p : Pair). IsWithin c.self.inside.resources p) (sym c.pair_at.ensures) (took c).within)

pub returns-in-Some-clause-bound : goal.returns-in-Some-clause-bound
returns-in-Some-clause-bound c h = subst (λ (q : Queued). q.taken < 4 * q.resources) c.self.view_is (took c).bound
