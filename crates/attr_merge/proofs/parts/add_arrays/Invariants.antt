use Rattle.std.proofs.Common.{◌≡◌, ◌++◌, drop}
use Rattle.attr_merge.specs.Families.{arrays_above}
use Rattle.attr_merge.specs.Parts.{pieces_of}
use Rattle.attr_merge.proofs.parts.add_arrays.Given as goal

-- the arrays so far, and those that are left
abbrev pub invariant-loop-part : goal.invariant-loop-part
invariant-loop-part l = pieces_of l.arrays.items ++ arrays_above l.family (pieces_of (drop l.part-index l.below)) ≡ pieces_of l.initial.arrays.items ++ arrays_above l.family (pieces_of l.below)
