-- What contracts see, once a pair was queued.
use Rattle.std.proofs.Common.{◌∙◌, ap, subst, ℕ}
use Rattle.notify_queue.proofs.KeptLemmas.{queue_view}
use Rattle.notify_queue.specs.Linked.{IsLinked, with_place}
use Rattle.notify_queue.specs.Queue.{queue}
use Rattle.notify_queue.proofs.queue.Queue.queue.Goals as goal

pub returns : goal.returns
returns c =
    queue_view c.self.inside.links c.link.new.self c.self.inside.taken c.self.inside.resources c.args.pair c.requires.action c.self.invariant
    (λ ever taken is. subst (λ (n : ℕ). IsLinked c.link.new.self (with_place ever n) taken) c.place_of.ensures (c.link.ensures.linked ever taken is))
    ∙ ap (queue c.args.pair) c.self.view_is
