use Rattle.std.proofs.Common.{◌≡◌, Some}
use Rattle.std.specs.Vec.Iter.{into_iter_items}
use Rattle.yaml_subset.specs.Machine.{run}
use Rattle.yaml_subset.proofs.reader.run_heads.Given as goal

-- the marks that are left lead on from here
abbrev pub invariant-loop-mark : goal.invariant-loop-mark
invariant-loop-mark l = run (Some l.blocks) (into_iter_items l.mark-iterator) ≡ run (Some l.fn.blocks) l.fn.heads
