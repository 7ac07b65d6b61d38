-- The closure compares an entry's key with the one that is sought.
use Rattle.std.proofs.Common.{rules}
use Rattle.std.proofs.lemmas.Fn.{always_returns_same}
use Rattle.shelves.proofs.PlaceLemmas.{searched}
use Rattle.shelves.proofs.places.search.Goals as goal

pub returns : goal.returns
returns g c =
    let facts = c.binary_search_by.ensures in
    let by_key = facts.position (λ e. g.K.Ord.cmp e.0 c.args.key.now) (always_returns_same _ _ _ (λ a r h called. search rules)) in
    searched g.K.Ord.cmp g.met.K.Ord.total c.args.key.now c.args.entries.now _ c.requires facts.bound by_key
