use Rattle.std.proofs.Common.{◌≡◌, length}
use Rattle.yaml_subset.specs.Machine.{close_all, frame_doc, settle}
use Rattle.yaml_subset.proofs.blocks.close_all.Given as goal

abbrev pub invariant-loop-outer : goal.invariant-loop-outer
invariant-loop-outer l =
    close_all l.document l.below ≡ close_all (frame_doc (settle l.fn.within.due l.fn.within.frame)) l.fn.within.below

abbrev pub decreases-loop-outer : goal.decreases-loop-outer
decreases-loop-outer l = length l.below
