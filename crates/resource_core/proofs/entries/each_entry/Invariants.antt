-- The entries so far, and then those of the trees that are left.
use Rattle.std.proofs.Common.{◌≡◌, ◌++◌, map, drop, option_map}
use Rattle.doc_tree.specs.Tree.{doc_of}
use Rattle.resource_core.specs.Entries.{entry_of}
use Rattle.resource_core.specs.Outcomes.{each_of}
use Rattle.resource_core.proofs.entries.each_entry.Given as goal

abbrev pub invariant-loop-tree : goal.invariant-loop-tree
invariant-loop-tree l = each_of entry_of l.trees ≡ option_map (λ later. l.entries ++ later) (each_of entry_of (map doc_of (drop l.tree-index l.tree-items)))
