use Rattle.std.proofs.Common.{◌≡◌, map}
use Rattle.std.specs.List.{list_any}
use Rattle.indexmap.specs.IndexMap.{values}
use Rattle.sandboxes.specs.Sums.{lists}
use Rattle.sandboxes.proofs.part.any_lists.Given as goal

-- one of those that are left lists it where one of all does
abbrev pub invariant-loop-sums : goal.invariant-loop-sums
invariant-loop-sums l = list_any (λ sums. lists sums l.sum) (map (λ e. e.1) l.sums-iterator) ≡ list_any (λ sums. lists sums l.sum) (values l.fn.sandboxes)
