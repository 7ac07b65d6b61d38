-- The values up to the index have forgotten; the others are as they were.
use Rattle.std.proofs.Common.{◌≡◌, ◌++◌, map, take, drop}
use Rattle.shelves.proofs.sorted_map.forget_in_each.Given as goal

abbrev pub invariant-loop-value : goal.invariant-loop-value
invariant-loop-value g l = l.entries ≡ map (λ e. (e.0, g.V.Forget.without l.name e.1)) (take l.value-index l.initial.entries) ++ drop l.value-index l.initial.entries
