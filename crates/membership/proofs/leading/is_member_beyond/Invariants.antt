use Rattle.std.proofs.Common.{◌≡◌, ◌<◌, ℕ, true, false, length}
use Rattle.membership.specs.Leading.{at, member_at}
use Rattle.membership.proofs.leading.is_member_beyond.Given as goal

abbrev pub invariant-loop-to : goal.invariant-loop-to
invariant-loop-to l = (to : ℕ) → to < l.to → at (length l.items.entries) l.cells l.place to ≡ true → member_at l.items.entries to l.caller ≡ false
