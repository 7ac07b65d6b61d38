-- With the shelves that are left, what is made is what all of them give.
use Rattle.std.proofs.Common.{◌≡◌, [], map, drop}
use Rattle.cookbook_meta.specs.Stored.{with_pairs}
use Rattle.cookbook_routes.specs.Universes as spec
use Rattle.cookbook_routes.proofs.ListingLemmas.{seen_shelf}
use Rattle.cookbook_routes.proofs.universe_routes.universe_tree.Given as goal

abbrev pub invariant-loop-name : goal.invariant-loop-name
invariant-loop-name l =
    with_pairs (map (spec.cookbook_pair l.org) (map seen_shelf l.name-items)) [] ≡ with_pairs (map (spec.cookbook_pair l.org) (map seen_shelf (drop l.name-index l.name-items))) l.fields
