-- The fields so far, and then those of the trees that are left.
use Rattle.std.proofs.Common.{◌≡◌, ◌++◌, map, drop}
use Rattle.std.specs.List.{filter_map}
use Rattle.doc_tree.specs.Tree.{doc_of}
use Rattle.resource_core.specs.Plans.{pairs_in}
use Rattle.resource_core.specs.Titles.{pairs_by}
use Rattle.resource_core.proofs.recipes.add_dicts.Given as goal

abbrev pub invariant-loop-tree : goal.invariant-loop-tree
invariant-loop-tree l = map pairs_by l.all.items ++ filter_map pairs_in (map doc_of (drop l.tree-index l.tree-items)) ≡ map pairs_by l.fn.all.items ++ filter_map pairs_in (map doc_of l.tree-items)
