-- The flags that are left decide.
use Rattle.std.proofs.Common.{◌≡◌, drop}
use Rattle.std.specs.List.{list_any}
use Rattle.resource_core.proofs.depths.is_any_set.Given as goal

abbrev pub invariant-loop-flag : goal.invariant-loop-flag
invariant-loop-flag l = list_any (λ b. b) l.flags ≡ list_any (λ b. b) (drop l.flag-index l.flags)
