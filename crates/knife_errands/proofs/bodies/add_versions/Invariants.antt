-- The lines so far are those before, and those of the first versions.
use Rattle.std.proofs.Common.{◌≡◌, ◌++◌, take}
use Rattle.knife_errands.specs.Bodies as spec
use Rattle.knife_errands.proofs.bodies.add_versions.Given as goal

abbrev pub invariant-loop-version : goal.invariant-loop-version
invariant-loop-version l = l.names ≡ l.initial.names ++ spec.of_cookbook l.cookbook (take l.version-index l.versions)
