use Rattle.std.proofs.Common.{◌≡◌, ◌++◌, drop, map}
use Rattle.access_lists.specs.Starting.{name_of}
use Rattle.access_routes.proofs.containers.names.Given as goal

-- the names so far, and then those of the others, are all
abbrev pub invariant-loop-container : goal.invariant-loop-container
invariant-loop-container l = l.names ++ map name_of (drop l.container-index l.container-items) ≡ map name_of l.container-items
