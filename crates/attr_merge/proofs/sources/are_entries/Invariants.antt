-- All are entries where those that are left are.
use Rattle.std.proofs.Common.{◌≡◌, map, drop}
use Rattle.std.specs.List.{list_all}
use Rattle.doc_tree.specs.Tree.{doc_of}
use Rattle.attr_merge.specs.Sources.{is_entry}
use Rattle.attr_merge.proofs.sources.are_entries.Given as goal

abbrev pub invariant-loop-entry : goal.invariant-loop-entry
invariant-loop-entry l = list_all is_entry l.entries ≡ list_all is_entry (map doc_of (drop l.entry-index l.entry-items))
