-- All releases are those so far and then those of the entries that are left.
use Rattle.std.proofs.Common.{◌≡◌, ◌++◌, map, drop}
use Rattle.org_shelves.specs.Universes as spec
use Rattle.org_shelves.proofs.universes.releases_of.Given as goal

abbrev pub invariant-loop-version : goal.invariant-loop-version
invariant-loop-version l = map spec.release_of l.entries ≡ l.releases.items ++ map spec.release_of (drop l.version-index l.entries)
