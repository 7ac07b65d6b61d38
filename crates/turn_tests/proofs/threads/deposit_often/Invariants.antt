use Rattle.std.proofs.Common.{◌≡◌, ◌≤◌, ◌-◌, false, vec_len, vec_capacity}
use Rattle.turn_tests.specs.Accounts.{AtPlaces}
use Rattle.turn_tests.proofs.threads.deposit_often.Given as goal

-- each reply so far is at its place
abbrev pub invariant-loop-turns : goal.invariant-loop-turns
invariant-loop-turns g l = (l.turns.book ≡ l.initial.turns.book) × (l.turns.is_out ≡ false) × (l.turns.parts ≡ l.initial.turns.parts) × (l.turns.opened ≡ l.initial.turns.opened)
    × (l.calls ≤ vec_capacity l.replies) × AtPlaces l.turns.seen l.amount l.turns.mine l.replies.items

abbrev pub decreases-loop-turns : goal.decreases-loop-turns
decreases-loop-turns g l = l.calls - vec_len l.replies
