-- The stored entries are those so far and then those of the entries that are left.
use Rattle.std.proofs.Common.{◌≡◌, ◌++◌, drop}
use Rattle.cookbook_meta.specs.Segments as spec
use Rattle.cookbook_meta.proofs.segments.segment_trees.Given as goal

abbrev pub invariant-loop-entry : goal.invariant-loop-entry
invariant-loop-entry l = spec.segment_docs l.segment l.fn.files ≡ l.made ++ spec.segment_docs l.segment (drop l.entry-index l.files)
