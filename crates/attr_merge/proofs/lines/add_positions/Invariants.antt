-- What was written, and what the positions that are left come to.
use Rattle.std.proofs.Common.{◌≡◌, ◌++◌, drop, false}
use Rattle.attr_merge.specs.Lines as spec
use Rattle.attr_merge.proofs.lines.add_positions.Given as goal

abbrev pub invariant-loop-position : goal.invariant-loop-position
invariant-loop-position l = l.out.items ++ spec.origin_text l.layers l.later (drop l.position-index l.positions) ≡ l.fn.out.items ++ spec.origin_text l.layers false l.positions
