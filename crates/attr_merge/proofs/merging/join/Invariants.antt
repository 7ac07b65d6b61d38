use Rattle.std.proofs.Common.{◌≡◌, [], drop}
use Rattle.attr_merge.specs.Elements.{with_elements}
use Rattle.attr_merge.specs.Families.{all_elements}
use Rattle.attr_merge.specs.Parts.{pieces_of}
use Rattle.attr_merge.proofs.merging.join.Given as goal

-- the elements so far, and those of the arrays that are left
abbrev pub invariant-loop-array : goal.invariant-loop-array
invariant-loop-array l = with_elements l.elements (all_elements (pieces_of (drop l.array-index l.array-items))) ≡ with_elements [] (all_elements (pieces_of l.array-items))
