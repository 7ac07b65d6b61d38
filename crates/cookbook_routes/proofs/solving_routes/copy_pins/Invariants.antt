-- The copies so far are those of the first pins.
use Rattle.std.proofs.Common.{◌≡◌, take}
use Rattle.cookbook_routes.proofs.solving_routes.copy_pins.Given as goal

abbrev pub invariant-loop-pin : goal.invariant-loop-pin
invariant-loop-pin l = l.copies ≡ take l.pin-index l.pins
