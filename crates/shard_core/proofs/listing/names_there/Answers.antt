-- Each shard adds the names of the organisations that belong to it.
use Rattle.std.proofs.Common.{length, refl}
use Rattle.std.proofs.lemmas.Option.{slice_get_read}
use Rattle.shard_core.proofs.ListingLemmas.{has-shard}
use Rattle.shard_core.proofs.listing.names_there.Goals as goal

pub loop-number-preserved : goal.loop-number-preserved
loop-number-preserved c = λ name.
    has-shard c.args.shards.now c.loop-number.number c.index-shards-number.result name _ _
    (slice_get_read c.args.shards.now (length c.args.shards.now) c.loop-number.number c.index-shards-number.result refl c.loop-number-test.true c.index-shards-number.is)
    (c.loop-number.invariant name) (c.in_ok-add_names.ensures name)
