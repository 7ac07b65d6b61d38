use Rattle.std.proofs.Common.{◌≡◌}
use Rattle.turn_book.proofs.SeatLemmas.{cleared}
use Rattle.turn_book.proofs.book.TurnBook.draw.Given as goal

-- nothing has changed but what was read of the tickets
abbrev pub invariant-loop : goal.invariant-loop
invariant-loop g l = (l.seat.table_id ≡ l.initial.seat.table_id) × (cleared l.seat.me ≡ cleared l.initial.seat.me)
