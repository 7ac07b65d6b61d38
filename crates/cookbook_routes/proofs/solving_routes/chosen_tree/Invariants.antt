-- With the pins that are left, what is made is what all of them give.
use Rattle.std.proofs.Common.{◌≡◌, [], map, drop}
use Rattle.cookbook_meta.specs.Stored.{with_pairs}
use Rattle.org_core.specs.Contexts.{seen}
use Rattle.cookbook_routes.specs.Solving as spec
use Rattle.cookbook_routes.proofs.solving_routes.chosen_tree.Given as goal

abbrev pub invariant-loop-pin : goal.invariant-loop-pin
invariant-loop-pin l = with_pairs (map (spec.chosen_pair (seen l.context)) l.pins) [] ≡ with_pairs (map (spec.chosen_pair (seen l.context)) (drop l.pin-index l.pins)) l.fields
