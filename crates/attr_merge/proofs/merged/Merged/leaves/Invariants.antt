use Rattle.std.proofs.Common.{◌≡◌, List, ℕ, ◌++◌, map}
use Rattle.attr_merge.specs.Nodes.{key_path}
use Rattle.attr_merge.proofs.merged.Merged.leaves.Given as goal

-- the paths so far, and those that are left
abbrev pub invariant-loop-path : goal.invariant-loop-path
invariant-loop-path l = l.paths.items ++ map key_path l.path-iterator ≡ map (λ (leaf : List (List ℕ) × List ℕ). leaf.0) l.self.leaves
