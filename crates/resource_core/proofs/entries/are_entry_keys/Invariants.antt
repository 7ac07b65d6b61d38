-- The keys that are left decide.
use Rattle.std.proofs.Common.{◌≡◌, map, drop}
use Rattle.doc_tree.specs.Doc.{pairs_of}
use Rattle.doc_tree.specs.Tree.{pair_of}
use Rattle.resource_core.specs.Entries as spec
use Rattle.resource_core.proofs.entries.are_entry_keys.Given as goal

abbrev pub invariant-loop-field : goal.invariant-loop-field
invariant-loop-field l = spec.are_entry_keys (pairs_of (map pair_of l.field-items)) ≡ spec.are_entry_keys (pairs_of (map pair_of (drop l.field-index l.field-items)))
