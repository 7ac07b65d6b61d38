-- All entries shown are those so far and then those of the trees that are left.
use Rattle.std.proofs.Common.{◌≡◌, ◌++◌, map, drop}
use Rattle.doc_tree.specs.Tree.{doc_of}
use Rattle.org_shelves.specs.Showing as spec
use Rattle.org_shelves.proofs.showing.shown_entries.Given as goal

abbrev pub invariant-loop-tree : goal.invariant-loop-tree
invariant-loop-tree l = map (spec.shown_entry l.front) (map doc_of l.tree-items) ≡ l.made ++ map (spec.shown_entry l.front) (map doc_of (drop l.tree-index l.tree-items))
