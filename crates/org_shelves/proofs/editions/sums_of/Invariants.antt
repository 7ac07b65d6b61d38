-- The checksums of all files are those so far and then those of the files that are left.
use Rattle.std.proofs.Common.{◌≡◌, ◌++◌, drop}
use Rattle.cookbook_meta.specs.Checksums as named
use Rattle.org_shelves.proofs.editions.sums_of.Given as goal

abbrev pub invariant-loop-entry : goal.invariant-loop-entry
invariant-loop-entry l = named.checksums_of l.files ≡ l.sums.items ++ named.checksums_of (drop l.entry-index l.files)
