use Rattle.std.proofs.Common.{◌≡◌}
use Rattle.turn_book.specs.Seats.{Waits, Seeing}
use Rattle.turn_book.proofs.book.TurnBook.wait.Given as goal

-- it waits, and has seen more
abbrev pub invariant-loop : goal.invariant-loop
invariant-loop g l = (l.seat.table_id ≡ l.initial.seat.table_id) × Waits l.ticket l.seat.me × Seeing l.initial.seat.me l.seat.me
