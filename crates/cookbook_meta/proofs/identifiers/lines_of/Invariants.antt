-- The lines of all entries are those so far and then those of the entries that are left.
use Rattle.std.proofs.Common.{◌≡◌, ◌++◌, map, drop}
use Rattle.cookbook_meta.specs.Identifiers as spec
use Rattle.cookbook_meta.proofs.identifiers.lines_of.Given as goal

abbrev pub invariant-loop-entry : goal.invariant-loop-entry
invariant-loop-entry l = map spec.line_of l.files ≡ l.lines.items ++ map spec.line_of (drop l.entry-index l.files)
