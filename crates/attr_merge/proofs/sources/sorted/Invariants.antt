-- The layers so far, and those of the levels that are left.
use Rattle.std.proofs.Common.{◌≡◌, ◌++◌, drop}
use Rattle.std.specs.List.{filter_map, flat_map}
use Rattle.attr_merge.specs.Sources.{by_level, layer_at, levels}
use Rattle.attr_merge.proofs.sources.sorted.Given as goal

abbrev pub invariant-loop-level : goal.invariant-loop-level
invariant-loop-level l = l.layers.items ++ flat_map (λ level. filter_map (layer_at level) l.entries) (drop l.level-index levels) ≡ by_level l.entries
