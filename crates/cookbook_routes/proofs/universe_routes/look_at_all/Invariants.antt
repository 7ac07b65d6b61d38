-- The steps so far, and one for each version of the shelves that are left, are all steps.
use Rattle.std.proofs.Common.{◌≡◌, ◌+◌, map, drop}
use Rattle.cookbook_routes.specs.Universes as spec
use Rattle.cookbook_routes.proofs.ListingLemmas.{seen_shelf}
use Rattle.cookbook_routes.proofs.universe_routes.look_at_all.Given as goal

abbrev pub invariant-loop-shelf : goal.invariant-loop-shelf
invariant-loop-shelf g l = l.steps + spec.count_versions (map seen_shelf (drop l.shelf-index l.shelf-items)) ≡ l.fn.steps + spec.count_versions (map seen_shelf l.shelf-items)
