use Rattle.std.proofs.Common.{rules, subst, refl, eq-eqb, ne_eqb}
use Rattle.turn_book.specs.Seats.{Looked}
use Rattle.turn_book.proofs.SeatLemmas.{sees_first, sees_again, waits_on, called_after}
use Rattle.turn_book.proofs.book.TurnBook.wait.Goals as goal

pub loop-init : goal.loop-init
loop-init g c = (refl, c.requires.waits, sees_first g.S.Stands.stands c.args.seat.now.me c.requires.waits.2)

pub look-done-requires-clause-waits : goal.look-done-requires-clause-waits
look-done-requires-clause-waits g c = c.loop.invariant.1

pub returns-then-done-ticket-clause-called : goal.returns-then-done-ticket-clause-called
returns-then-done-ticket-clause-called g c = called_after g.S.Stands.stands c.args.ticket c.args.seat.now.me c.loop.seat.me c.look-done.new.seat.me c.loop.invariant.2
    (subst (Looked g.S.Stands.stands c.args.ticket c.loop.seat.me c.look-done.new.seat.me) (eq-eqb c.look-done.result c.args.ticket c.if-done-ticket.true) c.look-done.ensures.saw)

pub loop-preserved : goal.loop-preserved
loop-preserved g c = let saw = subst (Looked g.S.Stands.stands c.args.ticket c.loop.seat.me c.look-done.new.seat.me) (ne_eqb c.look-done.result c.args.ticket c.if-done-ticket.false) c.look-done.ensures.saw in (
  search rules,
  waits_on g.S.Stands.stands c.args.ticket c.loop.seat.me c.look-done.new.seat.me c.loop.invariant.1 saw,
  sees_again g.S.Stands.stands c.args.seat.now.me c.loop.seat.me c.look-done.new.seat.me c.loop.invariant.2 saw,
)
