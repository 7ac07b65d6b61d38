use Rattle.std.proofs.Common.{◌∙◌, ap, sym, subst}
use Rattle.turn_book.specs.Callers.{AddsEntry}
use Rattle.turn_book.proofs.CallerLemmas.{out_of, adds_to, gave_settled, gave_known, gave_history}
use Rattle.turn_book.proofs.book.TurnBook.give.Goals as goal

pub give_value-requires-clause-own : goal.give_value-requires-clause-own
give_value-requires-clause-own g c = ap (λ k. k.book) c.turns.view_is ∙ c.requires.own

pub give_value-requires-clause-out : goal.give_value-requires-clause-out
give_value-requires-clause-out g c = out_of c.turns.inside.seat.table_id c.args.turns.now c.turns.inside.seat.me c.turns.invariant c.turns.view_is c.requires.out

pub give_value-requires-clause-adds : goal.give_value-requires-clause-adds
give_value-requires-clause-adds g c = adds_to g.S.Stands.stands c.turns.inside.seat.table_id c.args.turns.now c.turns.inside.seat.me g.M.Picks.entry c.out.inside.value c.turns.view_is (subst (λ x. AddsEntry g.S.Stands.stands c.args.turns.now g.M.Picks.entry x) (sym c.out.view_is) c.requires.adds)

pub invariant_of-turns : goal.invariant_of-turns
invariant_of-turns g c = gave_settled g.S.Stands.stands c.args.turns.now g.M.Picks.entry c.args.out c.turns.inside.seat.me c.give_value.new.seat.me (out_of c.turns.inside.seat.table_id c.args.turns.now c.turns.inside.seat.me c.turns.invariant c.turns.view_is c.requires.out) c.requires.adds c.give_value.ensures.gave

pub returns-clause-gave : goal.returns-clause-gave
returns-clause-gave g c = gave_known g.S.Stands.stands c.turns.inside.seat.table_id c.give_value.new.seat.table_id c.args.turns.now g.M.Picks.entry c.turns.inside.seat.me c.give_value.new.seat.me c.give_value.ensures.own c.turns.view_is c.give_value.ensures.gave

pub returns-clause-one_history : goal.returns-clause-one_history
returns-clause-one_history g c = gave_history g.S.Stands.stands c.turns.inside.seat.table_id c.give_value.new.seat.table_id c.args.turns.now g.M.Picks.entry c.args.out c.turns.inside.seat.me c.give_value.new.seat.me c.give_value.ensures.own c.turns.view_is c.requires.adds c.give_value.ensures.gave
