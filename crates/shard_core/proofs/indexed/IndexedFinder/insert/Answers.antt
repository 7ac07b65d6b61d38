-- An object comes with its pairs.
use Rattle.std.proofs.Common.{Some, ap}
use Rattle.shard_core.proofs.ChangeLemmas.{held_replaced}
use Rattle.shard_core.proofs.indexed.IndexedFinder.insert.Goals as goal

pub returns-clause-held : goal.returns-clause-held
returns-clause-held c = ap (λ h. Some h) (held_replaced c.args.self.now.index c.replace.new.self c.args.scope c.args.name c.args.pairs c.replace.ensures.replaces)
