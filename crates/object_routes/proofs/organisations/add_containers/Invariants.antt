use Rattle.std.proofs.Common.{◌≡◌, ◌++◌, drop, map}
use Rattle.object_routes.specs.Organisations.{starts_container}
use Rattle.object_routes.proofs.organisations.add_containers.Given as goal

abbrev pub invariant-loop-container : goal.invariant-loop-container
invariant-loop-container l = l.moves ++ map starts_container (drop l.container-index l.container-items) ≡ l.fn.moves ++ map starts_container l.container-items
