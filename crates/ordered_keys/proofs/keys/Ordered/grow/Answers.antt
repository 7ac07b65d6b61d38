-- The keys rise as before.
use Rattle.ordered_keys.proofs.OrderLemmas.{in_order_still}
use Rattle.ordered_keys.proofs.keys.Ordered.grow.Goals as goal

pub invariant_of-self : goal.invariant_of-self
invariant_of-self g c = in_order_still g.K.Ord.cmp g.met.K.Ord.total c.self.inside.keys c.grow.new.self c.args.more c.grow.result c.self.invariant c.grow.ensures.ok c.grow.ensures.order c.grow.ensures.err
