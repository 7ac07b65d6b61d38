-- The same is held.
use Rattle.std.proofs.Common.{Some, ap}
use Rattle.shard_core.proofs.ChangeLemmas.{held_same}
use Rattle.shard_core.proofs.indexed.IndexedFinder.reserve.Goals as goal

pub returns-clause-held : goal.returns-clause-held
returns-clause-held c = ap (λ h. Some h) (held_same c.args.self.now.index c.reserve.new.self c.reserve.ensures.same)
