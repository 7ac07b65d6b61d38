-- The pins so far are those of the first items.
use Rattle.std.proofs.Common.{◌≡◌, take}
use Rattle.run_lists.specs.Asking.{pins_in}
use Rattle.run_lists.proofs.asking.pins_in.Given as goal

abbrev pub invariant-loop-item : goal.invariant-loop-item
invariant-loop-item l = l.pins ≡ pins_in (take l.item-index l.items)
