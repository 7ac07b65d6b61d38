-- With what is left, what is made is what all of them give.
use Rattle.std.proofs.Common.{◌≡◌, [], map, drop}
use Rattle.cookbook_meta.specs.Stored.{with_pairs}
use Rattle.policy_routes.specs.Policies as spec
use Rattle.policy_routes.proofs.policy_listings.revisions_tree.Given as goal

abbrev pub invariant-loop-revision : goal.invariant-loop-revision
invariant-loop-revision l = with_pairs (map spec.revision_pair l.revision-items) [] ≡ with_pairs (map spec.revision_pair (drop l.revision-index l.revision-items)) l.fields
