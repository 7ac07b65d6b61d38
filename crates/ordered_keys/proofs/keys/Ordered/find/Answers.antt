-- Keys that rise are cut by any key, and one number at most has an equal key.
use Rattle.std.proofs.Common.{MatchOption, subst}
use Rattle.ordered_keys.specs.Keys.{IsAbsent, IsAt, Keys}
use Rattle.ordered_keys.proofs.OrderLemmas.{cut_by, found_by}
use Rattle.ordered_keys.proofs.keys.Ordered.find.Goals as goal

pub find-requires : goal.find-requires
find-requires g c = cut_by g.K.Ord.cmp g.met.K.Ord.total c.self.inside.keys (g.P.Probe.sought c.args.probe.now) c.self.invariant

pub returns : goal.returns
returns g c =
    let sought = g.P.Probe.sought c.args.probe.now in
    subst (λ (k : Keys g.row.K.Denot). MatchOption c.find.result (IsAbsent g.K.Ord.cmp k sought) (IsAt g.K.Ord.cmp k sought)) c.self.view_is
    (found_by g.K.Ord.cmp g.met.K.Ord.total c.self.inside.keys sought c.find.result c.self.invariant c.find.ensures)
