use Rattle.std.proofs.Common.{◌≡◌, ◌<◌, ℕ, false}
use Rattle.membership.specs.Leading.{lists_at, listing}
use Rattle.membership.proofs.leading.any_lists.Given as goal

abbrev pub invariant-loop-place : goal.invariant-loop-place
invariant-loop-place l = (from to : ℕ) → from < l.place → lists_at (listing l.items.entries) from to ≡ false
