-- The trees so far are those of the entries that came.
use Rattle.std.proofs.Common.{◌≡◌, map}
use Rattle.cookbook_routes.specs.Listings as spec
use Rattle.cookbook_routes.proofs.listing_routes.newest_tree.Given as goal

abbrev pub invariant-loop-version : goal.invariant-loop-version
invariant-loop-version l = l.trees ≡ map (λ entry. spec.version_doc l.org l.name entry.now.0) l.yielded
