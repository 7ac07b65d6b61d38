-- The lines so far, and those of the leaves that are left.
use Rattle.std.proofs.Common.{◌≡◌, ◌++◌, drop}
use Rattle.std.specs.List.{flat_map}
use Rattle.attr_merge.specs.Lines as spec
use Rattle.attr_merge.proofs.lines.lines.Given as goal

abbrev pub invariant-loop-path : goal.invariant-loop-path
invariant-loop-path l = l.out.items ++ flat_map (spec.line l.layers l.merged) (drop l.path-index l.path-items) ≡ flat_map (spec.line l.layers l.merged) l.leaves
