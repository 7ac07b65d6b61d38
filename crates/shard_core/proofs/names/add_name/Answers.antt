use Rattle.std.proofs.Common.{◌∙◌}
use Rattle.shard_core.proofs.ListingLemmas.{has-added}
use Rattle.shard_core.proofs.names.add_name.Goals as goal

pub returns : goal.returns
returns c = λ other.
    c.in_ok-insert.ensures.updates.0 other ∙ has-added _ _ other _ c.in_ok-copy.ensures
