-- With the versions that are left, what is made is what all of them give.
use Rattle.std.proofs.Common.{◌≡◌, [], map, drop}
use Rattle.cookbook_meta.specs.Stored.{with_pairs}
use Rattle.cookbook_routes.specs.Universes as spec
use Rattle.cookbook_routes.proofs.universe_routes.releases_tree.Given as goal

abbrev pub invariant-loop-version : goal.invariant-loop-version
invariant-loop-version l = with_pairs (map (spec.release_pair l.org) l.version-items) [] ≡ with_pairs (map (spec.release_pair l.org) (drop l.version-index l.version-items)) l.fields
