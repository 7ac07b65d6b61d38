use Rattle.std.proofs.Common.{◌≡◌, drop, reverse}
use Rattle.attr_merge.specs.Layers.{stacked, highest_first}
use Rattle.attr_merge.specs.Parts.{pieces_of}
use Rattle.attr_merge.proofs.parts.parts_of.Given as goal

-- the layers that are left come above the parts so far
abbrev pub invariant-loop-position : goal.invariant-loop-position
invariant-loop-position l = stacked l.position (drop l.position l.layers) (pieces_of (reverse l.parts.items)) ≡ highest_first l.layers
