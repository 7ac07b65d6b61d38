-- No entry is left, so all names that the shard adds were added.
use Rattle.shard_core.proofs.ListingLemmas.{has-shown}
use Rattle.shard_core.proofs.shards.Shard.add_names.Goals as goal

pub returns : goal.returns
returns c = λ name.
    has-shown c.args.number c.args.count name c.args.self.now.organisations.entries c.loop-name.name-iterator _ _
    c.into_iter-name-iterator.ensures.into_iter_gives.4 c.in-None.ensures.steps.0 (c.loop-name.invariant.names name)
