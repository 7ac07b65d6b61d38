use Rattle.std.proofs.Common.{◌≡◌, not, is_some, bytes_eq, take}
use Rattle.std.specs.List.{filter}
use Rattle.indexmap.specs.IndexMap.{get}
use Rattle.sandboxes.proofs.sums.Sums.without.Given as goal

-- the checksums so far of which no file is there
abbrev pub invariant-loop-sum : goal.invariant-loop-sum
invariant-loop-sum l = l.items.items ≡ filter (λ sum. not (is_some (get bytes_eq l.fn.files sum))) (take l.sum-index l.sum-items)
