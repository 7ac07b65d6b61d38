-- The key stands between those below it and those above it.
use Rattle.ordered_keys.proofs.OrderLemmas.{cut_by, in_order_in}
use Rattle.ordered_keys.proofs.keys.Ordered.insert.Goals as goal

pub insert-requires-clause-cut : goal.insert-requires-clause-cut
insert-requires-clause-cut g c = cut_by g.K.Ord.cmp g.met.K.Ord.total c.self.inside.keys c.args.key c.self.invariant

pub invariant_of-self : goal.invariant_of-self
invariant_of-self g c = in_order_in g.K.Ord.cmp g.met.K.Ord.total c.self.inside.keys c.insert.new.self c.args.key c.insert.result c.self.invariant c.insert.ensures.put c.insert.ensures.order
