-- With what is left, what is made is what all of them give.
use Rattle.std.proofs.Common.{◌≡◌, [], map, drop}
use Rattle.cookbook_meta.specs.Stored.{with_pairs}
use Rattle.policy_routes.specs.Artifacts as spec
use Rattle.policy_routes.proofs.ListingLemmas.{seen_shelf}
use Rattle.policy_routes.proofs.artifact_routes.listing_tree.Given as goal

abbrev pub invariant-loop-name : goal.invariant-loop-name
invariant-loop-name l = with_pairs (map (spec.artifacts_pair l.org) (map seen_shelf l.name-items)) [] ≡ with_pairs (map (spec.artifacts_pair l.org) (map seen_shelf (drop l.name-index l.name-items))) l.fields
