use Rattle.std.proofs.Common.{rules, ◌<◌, ◌∙◌, ap, sym, subst}
use Rattle.turn_book.specs.Views.{is_live}
use Rattle.turn_book.proofs.StepLemmas.{splits}
use Rattle.turn_book.proofs.CallerLemmas.{idle_of, less_settled, less_known, part_settled, part_known}
use Rattle.turn_book.proofs.book.TurnBook.split.Goals as goal

pub split_seat-requires : goal.split_seat-requires
split_seat-requires g c = let idle = idle_of c.turns.inside.seat.table_id c.args.turns.now c.turns.inside.seat.me c.turns.invariant c.turns.view_is c.requires.at_rest in (
  ap (λ k. k.book) c.turns.view_is ∙ c.requires.own ∙ sym c.self.view_is,
  search rules,
  splits g.S.Stands.stands g.S.Stands.opened c.self.inside.table.shared.key _ _ (ap is_live idle.stage_is) (subst (λ k. 1 < k.parts) (sym c.turns.view_is) c.requires.parts),
)

pub invariant_of-turns : goal.invariant_of-turns
invariant_of-turns g c = less_settled c.turns.inside.seat.me c.split_seat.new.seat.me (idle_of c.turns.inside.seat.table_id c.args.turns.now c.turns.inside.seat.me c.turns.invariant c.turns.view_is c.requires.at_rest) (subst (λ k. 1 < k.parts) (sym c.turns.view_is) c.requires.parts) c.split_seat.ensures.2

pub invariant_of-result : goal.invariant_of-result
invariant_of-result g c = part_settled c.turns.inside.seat.me.0 c.split_seat.result.me c.split_seat.ensures.4

pub returns-clause-left : goal.returns-clause-left
returns-clause-left g c = less_known c.turns.inside.seat.table_id c.split_seat.new.seat.table_id c.args.turns.now c.turns.inside.seat.me c.split_seat.new.seat.me c.split_seat.ensures.0 c.turns.view_is c.split_seat.ensures.2

pub returns-clause-right : goal.returns-clause-right
returns-clause-right g c = part_known c.turns.inside.seat.table_id c.split_seat.result.table_id c.args.turns.now c.turns.inside.seat.me c.split_seat.result.me c.split_seat.ensures.3 c.turns.view_is c.split_seat.ensures.4
