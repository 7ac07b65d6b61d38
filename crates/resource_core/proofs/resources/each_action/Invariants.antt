-- The actions so far, and then those of the trees that are left.
use Rattle.std.proofs.Common.{◌≡◌, ◌++◌, map, drop, option_map}
use Rattle.doc_tree.specs.Tree.{doc_of}
use Rattle.resource_core.specs.Resources.{action_of}
use Rattle.resource_core.specs.Outcomes.{each_of}
use Rattle.resource_core.proofs.resources.each_action.Given as goal

abbrev pub invariant-loop-tree : goal.invariant-loop-tree
invariant-loop-tree l = each_of (action_of l.kind) l.trees ≡ option_map (λ later. l.actions ++ later) (each_of (action_of l.kind) (map doc_of (drop l.tree-index l.tree-items)))
