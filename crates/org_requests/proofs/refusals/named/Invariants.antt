use Rattle.std.proofs.Common.{◌≡◌, map, take}
use Rattle.org_requests.proofs.refusals.named.Given as goal

-- the names so far
abbrev pub invariant-loop-sum : goal.invariant-loop-sum
invariant-loop-sum l = map (λ name. name.now) l.names.items ≡ take l.sum-index l.sums
