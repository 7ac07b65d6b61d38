use Rattle.std.proofs.Common.{◌≡◌, length}
use Rattle.yaml_subset.specs.Machine.{land}
use Rattle.yaml_subset.proofs.blocks.land.Given as goal

-- the mark comes to the same from here
abbrev pub invariant-closing : goal.invariant-closing
invariant-closing l =
    land l.mark l.within.due l.within.frame l.within.below ≡ land l.fn.mark l.fn.within.due l.fn.within.frame l.fn.within.below

abbrev pub decreases-closing : goal.decreases-closing
decreases-closing l = length l.within.below
