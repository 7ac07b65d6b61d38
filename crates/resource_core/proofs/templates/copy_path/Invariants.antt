-- The keys so far.
use Rattle.std.proofs.Common.{◌≡◌, take}
use Rattle.resource_core.proofs.templates.copy_path.Given as goal

abbrev pub invariant-loop-key : goal.invariant-loop-key
invariant-loop-key l = l.keys ≡ take l.key-index l.key-items
