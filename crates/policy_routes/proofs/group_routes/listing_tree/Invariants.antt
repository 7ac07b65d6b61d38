-- With what is left, what is made is what all of them give.
use Rattle.std.proofs.Common.{◌≡◌, [], map, drop}
use Rattle.cookbook_meta.specs.Stored.{with_pairs}
use Rattle.policy_routes.specs.Groups as spec
use Rattle.policy_routes.proofs.group_routes.listing_tree.Given as goal

abbrev pub invariant-loop-name : goal.invariant-loop-name
invariant-loop-name l = with_pairs (map (spec.group_pair l.org) l.name-items) [] ≡ with_pairs (map (spec.group_pair l.org) (drop l.name-index l.name-items)) l.fields
