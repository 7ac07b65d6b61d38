-- Keys that rise are cut by any key.
use Rattle.ordered_keys.proofs.OrderLemmas.{cut_by}
use Rattle.ordered_keys.proofs.keys.Ordered.has_between.Goals as goal

pub has_between-requires-clause-low : goal.has_between-requires-clause-low
has_between-requires-clause-low g c = cut_by g.K.Ord.cmp g.met.K.Ord.total c.self.inside.keys (g.P.Probe.sought c.args.low.now) c.self.invariant

pub has_between-requires-clause-high : goal.has_between-requires-clause-high
has_between-requires-clause-high g c = cut_by g.K.Ord.cmp g.met.K.Ord.total c.self.inside.keys (g.P.Probe.sought c.args.high.now) c.self.invariant
