-- With what is left, what is made is what all of them give.
use Rattle.std.proofs.Common.{◌≡◌, [], map, drop}
use Rattle.cookbook_meta.specs.Stored.{with_pairs}
use Rattle.policy_routes.specs.Groups as spec
use Rattle.policy_routes.proofs.group_routes.assigned_tree.Given as goal

abbrev pub invariant-loop-policy : goal.invariant-loop-policy
invariant-loop-policy l = with_pairs (map spec.assigned_pair l.policy-items) [] ≡ with_pairs (map spec.assigned_pair (drop l.policy-index l.policy-items)) l.fields
