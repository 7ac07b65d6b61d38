-- The trees that are left decide.
use Rattle.std.proofs.Common.{◌≡◌, map, drop, is_some}
use Rattle.std.specs.List.{list_all}
use Rattle.doc_tree.specs.Tree.{doc_of}
use Rattle.resource_core.specs.Plans.{pairs_in}
use Rattle.resource_core.proofs.recipes.are_dicts.Given as goal

abbrev pub invariant-loop-tree : goal.invariant-loop-tree
invariant-loop-tree l = list_all (λ d. is_some (pairs_in d)) (map doc_of l.tree-items) ≡ list_all (λ d. is_some (pairs_in d)) (map doc_of (drop l.tree-index l.tree-items))
