use Rattle.std.proofs.Common.{◌≡◌, drop}
use Rattle.attr_merge.specs.Layers.{are_from}
use Rattle.attr_merge.proofs.layers.are_from.Given as goal

-- the layers that are left decide
abbrev pub invariant-loop-layer : goal.invariant-loop-layer
invariant-loop-layer l = are_from l.lowest (drop l.layer-index l.layers) ≡ are_from 1 l.layers
