-- The titles of the trees so far were added.
use Rattle.std.proofs.Common.{map, take}
use Rattle.doc_tree.specs.Tree.{doc_of}
use Rattle.resource_core.proofs.CreatedLemmas.{resources_to_create}
use Rattle.resource_core.specs.Titles.{Adds}
use Rattle.resource_core.proofs.created.add_each.Given as goal

abbrev pub invariant-loop-tree : goal.invariant-loop-tree
invariant-loop-tree l = Adds (resources_to_create (map doc_of (take l.tree-index l.tree-items))) l.fn.titles l.titles
