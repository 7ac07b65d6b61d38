-- The listing is what is due where it is asked for.
use Rattle.std.proofs.Common.{sym, ◌∙◌}
use Rattle.shard_core.proofs.ListingLemmas.{listing-due}
use Rattle.shard_core.proofs.site.serve_of_none.Goals as goal

pub returns-then-is_listing : goal.returns-then-is_listing
returns-then-is_listing c = listing-due _ _ _ (sym c.is_listing.ensures ∙ c.if-is_listing.true) c.listed.ensures
