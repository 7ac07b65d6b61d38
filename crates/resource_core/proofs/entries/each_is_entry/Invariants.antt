-- The trees that are left decide.
use Rattle.std.proofs.Common.{◌≡◌, map, drop, is_some}
use Rattle.doc_tree.specs.Tree.{doc_of}
use Rattle.resource_core.specs.Entries.{entry_of}
use Rattle.resource_core.specs.Outcomes.{each_of}
use Rattle.resource_core.proofs.entries.each_is_entry.Given as goal

abbrev pub invariant-loop-tree : goal.invariant-loop-tree
invariant-loop-tree l = is_some (each_of entry_of (map doc_of l.tree-items)) ≡ is_some (each_of entry_of (map doc_of (drop l.tree-index l.tree-items)))
