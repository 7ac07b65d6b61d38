use Rattle.std.proofs.Common.{◌≡◌, Some, take}
use Rattle.query_text.specs.Machine.{start, steps}
use Rattle.query_text.proofs.read.read_query.Given as goal

-- the bytes so far were gone along with
abbrev pub invariant-loop-index : goal.invariant-loop-index
invariant-loop-index l = steps (take l.index l.bytes) (Some start) ≡ Some l.config
