-- The pins so far are those of the first places.
use Rattle.std.proofs.Common.{◌≡◌, map, take}
use Rattle.dep_solver.specs.Search.{pin_of}
use Rattle.dep_solver.proofs.solved.in_byte_order.Given as goal

abbrev pub invariant-loop-place : goal.invariant-loop-place
invariant-loop-place l = l.pins.items ≡ map pin_of (take l.place-index l.places)
