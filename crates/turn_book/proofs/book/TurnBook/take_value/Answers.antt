use Rattle.std.proofs.Common.{◌∙◌, ap, sym, ◌∷◌}
use Rattle.atomic_table.specs.Table.{rest}
use Rattle.turn_book.proofs.SeatLemmas.{waits_of, slot_of, not_none, took_out}
use Rattle.turn_book.proofs.book.TurnBook.take_value.Goals as goal

pub draw-requires-clause-idle : goal.draw-requires-clause-idle
draw-requires-clause-idle g c = c.requires.idle

pub wait-requires-clause-waits : goal.wait-requires-clause-waits
wait-requires-clause-waits g c = waits_of g.S.Stands.stands c.in_ok-ticket.ticket c.args.seat.now.me c.draw.new.seat.me c.requires.idle c.in_ok-ticket.ensures.drew

pub exchange-requires : goal.exchange-requires
exchange-requires g c = (c.wait.ensures.own ∙ c.draw.ensures.own ∙ c.requires.own ∙ sym c.self.view_is, slot_of g.S.Stands.stands c.in_ok-ticket.ticket c.draw.new.seat.me c.wait.new.seat.me c.wait.ensures.called)

pub unreachable-requires : goal.unreachable-requires
unreachable-requires g c = not_none g.S.Stands.stands c.in_ok-ticket.ticket c.draw.new.seat.me c.wait.new.seat.me (rest c.wait.new.seat.me.1) c.wait.ensures.called (c.exchange.ensures.2 ∙ ap (λ o. (0, o) ∷ rest c.wait.new.seat.me.1) c.in-None.is)

pub returns-clause-took : goal.returns-clause-took
returns-clause-took g c = took_out g.S.Stands.stands c.in_ok-ticket.ticket c.in-Some.value c.args.seat.now.me c.draw.new.seat.me c.wait.new.seat.me c.exchange.new.seat.me c.in_ok-ticket.ensures.drew c.wait.ensures.called (c.exchange.ensures.2 ∙ ap (λ o. (0, o) ∷ rest c.wait.new.seat.me.1) c.in-Some.is) c.exchange.ensures.3
