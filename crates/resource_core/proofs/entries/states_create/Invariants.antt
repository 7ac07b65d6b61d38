-- The trees that are left decide.
use Rattle.std.proofs.Common.{◌≡◌, map, drop}
use Rattle.std.specs.List.{filter_map, list_any}
use Rattle.doc_tree.specs.Tree.{doc_of}
use Rattle.resource_core.specs.Entries.{entry_of, is_to_create}
use Rattle.resource_core.proofs.entries.states_create.Given as goal

abbrev pub invariant-loop-tree : goal.invariant-loop-tree
invariant-loop-tree l = list_any is_to_create (filter_map entry_of (map doc_of l.tree-items)) ≡ list_any is_to_create (filter_map entry_of (map doc_of (drop l.tree-index l.tree-items)))
