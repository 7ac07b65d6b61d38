use Rattle.std.proofs.Common.{◌∙◌, ap}
use Rattle.turn_book.proofs.CallerLemmas.{idle_of, end_settled, end_known, took_settled, took_known}
use Rattle.turn_book.proofs.book.TurnBook.take.Goals as goal

pub take_value-requires-clause-own : goal.take_value-requires-clause-own
take_value-requires-clause-own g c = ap (λ k. k.book) c.turns.view_is ∙ c.requires.own

pub take_value-requires-clause-idle : goal.take_value-requires-clause-idle
take_value-requires-clause-idle g c = idle_of c.turns.inside.seat.table_id c.args.turns.now c.turns.inside.seat.me c.turns.invariant c.turns.view_is c.requires.at_rest

pub invariant_of-turns : goal.invariant_of-turns
invariant_of-turns g c = end_settled c.turns.inside.seat.me c.take_value.new.seat.me (idle_of c.turns.inside.seat.table_id c.args.turns.now c.turns.inside.seat.me c.turns.invariant c.turns.view_is c.requires.at_rest) c.in-None.ensures.took

pub returns-in-None : goal.returns-in-None
returns-in-None g c = record { took = end_known c.turns.inside.seat.table_id c.take_value.new.seat.table_id c.args.turns.now c.turns.inside.seat.me c.take_value.new.seat.me c.take_value.ensures.own c.turns.view_is c.in-None.ensures.took }

pub invariant_of-turns-2 : goal.invariant_of-turns-2
invariant_of-turns-2 g c = took_settled g.S.Stands.stands c.in-Some.value c.turns.inside.seat.me c.take_value.new.seat.me (idle_of c.turns.inside.seat.table_id c.args.turns.now c.turns.inside.seat.me c.turns.invariant c.turns.view_is c.requires.at_rest) c.in-Some.ensures.took

pub returns : goal.returns
returns g c = record { took = took_known g.S.Stands.stands c.in-Some.value c.turns.inside.seat.table_id c.take_value.new.seat.table_id c.args.turns.now c.turns.inside.seat.me c.take_value.new.seat.me c.take_value.ensures.own c.turns.view_is c.in-Some.ensures.took }
